-- The tests in their order: the length, what stands before the windows, the windows.
use Rattle.std.proofs.Common.{sym, refl}
use Rattle.std.proofs.lemmas.Result.{err_from_is_err_and}
use Rattle.cuts.proofs.BelowLaws.{and_false}
use Rattle.condition.specs.Condition.{condition_ok, condition_of}
use Rattle.condition.proofs.FieldLaws.{ok_by, err_by, read_of-refused, read_of-good, refused_of-short, refused_of-broken, refused_of-good, kind_uses}
use Rattle.condition.proofs.read.Goals as goal

pub returns-then-s-lt38 : goal.returns-then-s-lt38
returns-then-s-lt38 c = sym (read_of-refused _ (refused_of-short _ c.if-s-lt38.true))

pub returns-in_err-kind : goal.returns-in_err-kind
unfolding condition_ok
returns-in_err-kind c =
    let (f, v) = err_by _ c.in_err-kind.was c.kind.ensures in
    let r = err_from_is_err_and c.from_residual.result c.from_residual.ensures.1 in
    rw (r.1, r.2, v) (sym (read_of-refused _ (refused_of-broken _ c.if-s-lt38.false (rw f refl))))

pub returns-in_err-windows : goal.returns-in_err-windows
unfolding condition_ok
returns-in_err-windows c =
    let (f, v) = err_by _ c.in_err-windows.was c.windows.ensures in
    let r = err_from_is_err_and c.from_residual-in_err-windows.result c.from_residual-in_err-windows.ensures.1 in
    rw (r.1, r.2, v) (sym (read_of-refused _ (refused_of-broken _ c.if-s-lt38.false (rw f (and_false _)))))

pub returns : goal.returns
unfolding condition_ok condition_of
returns c =
    let (t, v) = ok_by _ c.in_ok-kind.was c.kind.ensures in
    let (g, w) = ok_by _ c.in_ok-windows.was c.windows.ensures in
    rw (v, w) (sym (read_of-good _ (refused_of-good _ c.if-s-lt38.false (rw (t, g) refl))))

pub windows-requires : goal.windows-requires
windows-requires c = let (t, v) = ok_by _ c.in_ok-kind.was c.kind.ensures in rw v (kind_uses _ t)
