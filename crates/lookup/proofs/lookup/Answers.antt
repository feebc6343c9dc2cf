-- The recording's checks come first; then the station and the event are compared with n and m, which the full cut has, and what they name is found.
use mathlib.Core.Path.{sym, ◌∙◌}
use Rattle.lookup.proofs.LookupLaws.{full_few, recorded_read, lookup_found, lookup_none}
use Rattle.lookup.proofs.lookup.Goals as goal

pub is_recorded-requires : goal.is_recorded-requires
is_recorded-requires c = full_few _ _ _ 0 0 (sym c.check.ensures ∙ c.in_ok-check.was) _ c.full_cut-full.ensures

pub returns-then-not-is_recorded : goal.returns-then-not-is_recorded
returns-then-not-is_recorded c =
    rw c.from.ensures (lookup_none _ _ _ _ _ (sym c.check.ensures ∙ c.in_ok-check.was) _ c.full_cut-full.ensures (sym c.is_recorded.ensures ∙ c.if-not-is_recorded.true))

pub found_at-requires : goal.found_at-requires
found_at-requires c =
    let ok = sym c.check.ensures ∙ c.in_ok-check.was in
    let ef = c.full_cut-full.ensures in
    let (_, p, e) = recorded_read _ _ _ _ _ ok _ ef (sym c.is_recorded.ensures ∙ c.if-not-is_recorded.false) in
    rw (c.of_today.ensures.0, c.of_today.ensures.1) (ef, full_few _ _ _ 0 0 ok _ ef, p, e)

pub returns : goal.returns
returns c =
    rw (c.found_at.ensures, c.of_today.ensures.0, c.of_today.ensures.1)
    (lookup_found _ _ _ _ _ (sym c.check.ensures ∙ c.in_ok-check.was) _ c.full_cut-full.ensures (sym c.is_recorded.ensures ∙ c.if-not-is_recorded.false))
