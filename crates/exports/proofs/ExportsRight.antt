-- The promise of the exported entry permits one number and one pair of rooms. Assumes nothing.
use mathlib.Core.Path.{◌≡◌, sym, ap, ◌∙◌}
use mathlib.Core.List.{List}
use Prim.Native.Nat.{ℕ}
use Rattle.engine.proofs.JudgeRight.{judged_unique}
use Rattle.exports.specs.Exports.{reply_number, JudgeExported}

pub judge_number_unique : (job marks path : List ℕ) (r r' : ℕ) (a b a' b' : List ℕ) → JudgeExported job marks path r a b → JudgeExported job marks path r' a' b'
    → (r ≡ r') × (a ≡ a') × (b ≡ b')
judge_number_unique job marks path r r' a b a' b' x y =
    let (e, f, g) = judged_unique job marks path _ _ _ _ _ _ x.judged y.judged in
    (x.number ∙ ap reply_number e ∙ sym y.number, f, g)
