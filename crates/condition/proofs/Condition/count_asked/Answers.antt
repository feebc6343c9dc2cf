-- The asked windows, counted.
use Rattle.std.proofs.Common.{◌≡◌, rules, ◌∙◌, arith}
use Rattle.std.specs.List.{count_by}
use Rattle.std.proofs.lemmas.List.Sums.{length-filter, count_by-le-length}
use Rattle.condition.proofs.WeighLaws.{eight_windows, count_asked}
use Rattle.condition.proofs.Condition.count_asked.Goals as goal

pub returns : goal.returns
returns c =
    let n = eight_windows c.args.self _ c.well_formed.0 in
    let e : c.count.result ≡ count_by (λ w. w.asked) c.args.self.windows = search (rules, length-filter) in
    (e ∙ count_asked c.args.self n, omega (arith, e, count_by-le-length (λ w. w.asked) c.args.self.windows))
