use Rattle.std.proofs.Common.{◌≡◌, ◌∙◌, ◌+◌, ◌-◌, arith, rules, tests}
use Rattle.std.proofs.lemmas.Iterator.{YieldsList-from_slice}
use Rattle.std.proofs.lemmas.Iterator.Search.{position_from_yields_List}
use Rattle.std.specs.Option.{option_map}
use Rattle.std.proofs.lemmas.List.{take_all}
use lib.Dec.{eqb}
use lib.ListN.{drop, take, length, length-drop}
use Rattle.marks.proofs.SearchLaws.{one_from}
use Rattle.marks.proofs.frame.first_one.Goals as goal

pub returns : goal.returns
returns c =
    let from = c.passed_over-from.result in
    let marks = c.args.marks.now in
    let whole = take_all (length marks - from) (drop from marks) (omega (arith, length-drop from marks)) in
    let found = position_from_yields_List (λ m. eqb m 1) _ _ c.position.result c.position.ensures.ran
    (YieldsList-from_slice (take (length marks - from) (drop from marks)) (cc)) (λ m b q k. search (rules, tests)) in
    let mapped : c.map.result ≡ option_map (λ r. from + r) c.position.result = search rules in
    mapped ∙ one_from marks from _ c.passed_over-from.ensures.0 c.passed_over-from.ensures.1 (rw whole at found)
