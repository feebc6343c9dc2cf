use Rattle.std.proofs.Common.{◌∙◌, arith, rules, tests}
use Rattle.std.proofs.lemmas.Iterator.{YieldsList-from_range}
use Rattle.std.proofs.lemmas.Iterator.Search.{all_from_yields_List}
use lib.ListN.{length}
use Prim.Native.Nat.{◌+◌}
use Rattle.cuts.specs.Cut.{at}
use Rattle.marks.specs.Flat.{row_there}
use Rattle.marks.proofs.SearchLaws.{all_every}
use Rattle.marks.proofs.Task.covered.Goals as goal

pub returns : goal.returns
returns c =
    let task = c.args.self.now in
    all_from_yields_List (λ p. row_there (length task.needs.now) (length task.weights.now) (at task.bases p + at task.full.counts p)) _ _ c.all.result c.all.ensures.ran
    (YieldsList-from_range 0 c.from.result task.full.n (cc) (omega (arith, c.from.ensures))) (λ p b q k. search (rules, tests))
    ∙ all_every _ _
