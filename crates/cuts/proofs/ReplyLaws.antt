-- Replies: a test and its answer, and a promise that gives the reply by an equation. Assumes nothing.
use mathlib.Core.Path.{◌≡◌, refl, sym, ◌∙◌}
use mathlib.Core.Bool.{Bool, true, false, not, false≢true}
use borrow.Author.Tests.{not-true, not-false}

-- a test that cannot be true is false
pub refuted : (b : Bool) → (b ≡ true → ⊥) → b ≡ false
refuted true h = absurd (h refl)
refuted false h = refl

-- a test b whose answer r was taken for true
pub answered_true : {r b : Bool} → r ≡ b → not r ≡ false → b ≡ true
answered_true e h = sym e ∙ not-false _ h

-- .. and for false
pub answered_false : {r b : Bool} → r ≡ b → not r ≡ true → b ≡ true → ⊥
answered_false e h t = false≢true (sym (not-true _ h) ∙ e ∙ t)

-- a contract that gives the reply by an equation permits one reply
pub replies_equal : {A : Type 0} {a r r' : A} → r ≡ a → r' ≡ a → r ≡ r'
replies_equal e f = e ∙ sym f
