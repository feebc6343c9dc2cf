-- Each arm of the match is a clause of the definition; the tests of the arms are those of the section.
use Rattle.std.proofs.Common.{leb, ◌<◌, refl, ap, sym, ◌∙◌, ne_eqb, le-leb, arith}
use borrow.Author.Tests.{lt-leb}
use Rattle.std.proofs.lemmas.Result.{err_from_is_err_and}
use Rattle.bits.specs.Bits.{peeked}
use Rattle.cuts.proofs.BelowLaws.{and_false}
use Rattle.condition.specs.Condition.{kind_at, k_at, low_at, high_at}
use Rattle.condition.proofs.FieldLaws.{ok_by, err_by, ok_if, err_if, head_good, head_bad, kind_of-zero, kind_of-one, kind_of-two}
use Rattle.condition.proofs.fields.kind.Goals as goal

pub returns-in_err-low : goal.returns-in_err-low
unfolding kind_at k_at low_at high_at peeked
returns-in_err-low c =
    let r = err_from_is_err_and c.from_residual.result c.from_residual.ensures.1 in
    rw (r.1, r.2, (err_by _ c.in_err-low.was c.ends.ensures).1) (err_if _ (head_bad _ c.peek-number.ensures c.peek-k.ensures c.ends.ensures c.in_err-low.was))

pub returns-in-0 : goal.returns-in-0
unfolding kind_at k_at low_at high_at peeked
returns-in-0 c =
    ok_if _ (head_good _ c.peek-number.ensures c.peek-k.ensures c.ends.ensures c.in_ok-low.was ∙ rw (c.in-0.is, c.if-k-eq0.true) refl) (sym (kind_of-zero _ (omega arith)))

pub returns-in-1 : goal.returns-in-1
unfolding kind_at k_at low_at high_at peeked
returns-in-1 c =
    ok_if _ (head_good _ c.peek-number.ensures c.peek-k.ensures c.ends.ensures c.in_ok-low.was ∙ rw (c.in-1.is, le-leb c.peek-k.result 8 (omega arith)) refl) (rw c.peek-k.ensures (sym (kind_of-one _ (omega arith))))

pub returns-in-2 : goal.returns-in-2
unfolding kind_at k_at low_at high_at peeked
returns-in-2 c =
    ok_if _ (head_good _ c.peek-number.ensures c.peek-k.ensures c.ends.ensures c.in_ok-low.was ∙ rw (c.in-2.is, c.if-k-eq0-2.true) refl)
    (rw (ap (λ e. e.0) (ok_by _ c.in_ok-low.was c.ends.ensures).1, ap (λ e. e.1) (ok_by _ c.in_ok-low.was c.ends.ensures).1) (sym (kind_of-two _ (omega arith))))

pub returns-in_default : goal.returns-in_default
unfolding kind_at k_at low_at high_at peeked
returns-in_default c =
    err_if _ (head_good _ c.peek-number.ensures c.peek-k.ensures c.ends.ensures c.in_ok-low.was ∙ rw (c.in-0.is, ne_eqb _ _ c.if-k-eq0.false, and_false (leb c.peek-k.result 8)) refl)

pub returns-in_default-2 : goal.returns-in_default-2
unfolding kind_at k_at low_at high_at peeked
returns-in_default-2 c =
    err_if _ (head_good _ c.peek-number.ensures c.peek-k.ensures c.ends.ensures c.in_ok-low.was ∙ rw (c.in-1.is, lt-leb c.peek-k.result 8 (omega arith)) refl)

pub returns-in_default-3 : goal.returns-in_default-3
unfolding kind_at k_at low_at high_at peeked
returns-in_default-3 c =
    err_if _ (head_good _ c.peek-number.ensures c.peek-k.ensures c.ends.ensures c.in_ok-low.was ∙ rw (c.in-2.is, ne_eqb _ _ c.if-k-eq0-2.false, and_false (leb c.peek-k.result 8)) refl)

pub returns-in_default-4 : goal.returns-in_default-4
unfolding kind_at k_at low_at high_at peeked
returns-in_default-4 c =
    let n : 2 < c.peek-number.result = omega arith in
    err_if _ (head_good _ c.peek-number.ensures c.peek-k.ensures c.ends.ensures c.in_ok-low.was ∙ rw (lt-leb _ _ n) refl)
