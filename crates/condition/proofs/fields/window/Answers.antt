-- Each part is read as the definition says.
use Rattle.std.proofs.Common.{◌≡◌, ◌+◌, ◌*◌, ◌&&◌, not, eqb, refl, ap, ◌∙◌, arith, eq-eqb, ne_eqb}
use Rattle.std.proofs.lemmas.Result.{err_from_is_err_and}
use Rattle.bits.specs.Bits.{peeked}
use Rattle.condition.specs.Condition.{kind_at, window_ok, window_of, asked_at, window_low, window_high}
use Rattle.condition.proofs.FieldLaws.{ok_by, err_by, ok_if, err_if}
use Rattle.condition.proofs.fields.window.Goals as goal
use Rattle.condition.proofs.fields.window.Goals.{then-asked, else-asked}

pub returns-in_err-low : goal.returns-in_err-low
unfolding window_ok asked_at window_low window_high peeked
returns-in_err-low c =
    let e : 48 + 32 * c.args.p + 16 ≡ 64 + 32 * c.args.p = omega arith in
    let used : c.if-asked.ends ≡ (eqb c.peek-asked.result 1 && not (eqb (kind_at c.args.s.now) 2)) =
    elim c.if-asked.branch [
      | then-asked w ↦ w.ends-is ∙ w.uses_windows.ensures ∙ c.requires.1 ∙ rw (eq-eqb _ _ w.if-asked.true) refl
      | else-asked w ↦ w.ends-is ∙ rw (ne_eqb _ _ w.if-asked.false) refl
    ] in
    let (f, v) = err_by _ c.in_err-low.was (rw (e, used, c.peek-asked.ensures) at c.ends.ensures) in
    let r = err_from_is_err_and c.from_residual.result c.from_residual.ensures.1 in
    rw (r.1, r.2, v) (err_if _ f)

pub returns : goal.returns
unfolding window_ok window_of asked_at window_low window_high peeked
returns c =
    let e : 48 + 32 * c.args.p + 16 ≡ 64 + 32 * c.args.p = omega arith in
    let used : c.if-asked.ends ≡ (eqb c.peek-asked.result 1 && not (eqb (kind_at c.args.s.now) 2)) =
    elim c.if-asked.branch [
      | then-asked w ↦ w.ends-is ∙ w.uses_windows.ensures ∙ c.requires.1 ∙ rw (eq-eqb _ _ w.if-asked.true) refl
      | else-asked w ↦ w.ends-is ∙ rw (ne_eqb _ _ w.if-asked.false) refl
    ] in
    let (t, v) = ok_by _ c.in_ok-low.was (rw (e, used, c.peek-asked.ensures) at c.ends.ensures) in
    ok_if _ t (rw (c.peek-asked.ensures, ap (λ e. e.0) v, ap (λ e. e.1) v) refl)
