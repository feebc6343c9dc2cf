-- A station that is not there adds nothing; what another adds goes by the kind.
use Rattle.std.proofs.Common.{sym, ◌∙◌, arith}
use Rattle.condition.specs.Condition.{no_window}
use Rattle.condition.proofs.WeighLaws.{eight_windows, unasked_beyond, weigh_unasked, weigh_inside, weigh_asked, weigh_nothing}
use Rattle.condition.proofs.weigh.Goals as goal

pub returns-in_default : goal.returns-in_default
returns-in_default c =
    let e = eight_windows c.args.c _ c.well_formed.0 in
    sym (weigh_unasked _ _ _ (unasked_beyond c.args.c _ e (omega (arith, e, c.in_default.ensures.lookup))))

pub returns-in-Sum : goal.returns-in-Sum
returns-in-Sum c = weigh_asked _ _ _ (c.in-Some.ensures.lookup.3.1 no_window) c.in-Sum.is c.if-window.true

pub returns-in-Sum-2 : goal.returns-in-Sum-2
returns-in-Sum-2 c = weigh_nothing _ _ _ (c.in-Some.ensures.lookup.3.1 no_window) c.if-window.false

pub returns-in_default-kind : goal.returns-in_default-kind
returns-in_default-kind c =
    c.from.ensures ∙ rw c.is_met.ensures (weigh_inside _ _ _ (c.in-Some.ensures.lookup.3.1 no_window) c.in_default-kind.not-Sum)
