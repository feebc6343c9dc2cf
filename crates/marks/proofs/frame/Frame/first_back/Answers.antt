use Rattle.std.proofs.Common.{arith, rules, tests, ltb-true}
use Rattle.std.proofs.lemmas.Iterator.{YieldsList-from_range}
use Rattle.std.proofs.lemmas.Iterator.Search.{find_from_yields_List}
use Rattle.cuts.proofs.BelowLaws.{and_true}
use Rattle.marks.specs.Rows.{leads_back}
use Rattle.marks.proofs.SearchLaws.{find_place, place_found}
use Rattle.marks.proofs.frame.Frame.first_back.Goals as goal

pub returns : goal.returns
unfolding leads_back
returns c =
    let frame = c.args.self.now in
    let leads = leads_back c.args.marks.now c.args.counts.now frame.strides c.args.r in
    let found = find_place leads _ _ (find_from_yields_List leads _ _ c.find.result c.find.ensures.ran
    (YieldsList-from_range 0 c.stations.result frame.task.full.n (cc) (omega (arith, c.stations.ensures))) (λ p b q k. search (rules, tests))) in
    (found, place_found leads _ _ (λ p here passes. let some = ltb-true _ _ (and_true _ _ passes).0 in (here, some, (c.requires.0 p here some).1)) _ found)
