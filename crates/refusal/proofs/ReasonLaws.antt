-- The law's numbers. In order: the code's are these; each number is from 1 to 15; each reason has its own; one reply.
use Rattle.std.proofs.Common.{◌≡◌, ℕ, ◌+◌, ◌-◌, ◌≤◌, List, [], ◌∷◌, get_or, refl, sym, arith}
use mathlib.Core.Path.{ap, ◌∙◌}
use denote.Enum.Declared.{tag_of}
use Rattle.refusal.specs.Refusal.{number_of, whole}
use Rattle.refusal.specs.declared.Reason.{Reason}
use Rattle.refusal.specs.declared.Refusal.{Refusal}
use Rattle.refusal.specs.contracts.Reason.{the_type}

pub number_tag : (k : Reason) → tag_of the_type k + 1 ≡ number_of k
unfolding number_of
number_tag Reason.TooShort = refl
number_tag Reason.Stations = refl
number_tag Reason.TooLong = refl
number_tag Reason.Padding = refl
number_tag Reason.Origin = refl
number_tag Reason.Number = refl
number_tag Reason.Stamp = refl
number_tag Reason.Condition = refl
number_tag Reason.Asked = refl
number_tag Reason.BoxSize = refl
number_tag Reason.MarksRoom = refl
number_tag Reason.PathRoom = refl
number_tag Reason.Room = refl
number_tag Reason.Level = refl
number_tag Reason.NoRecord = refl

pub number_bounds : (k : Reason) → (1 ≤ number_of k) × (number_of k ≤ 15)
unfolding number_of
number_bounds Reason.TooShort = (omega arith, omega arith)
number_bounds Reason.Stations = (omega arith, omega arith)
number_bounds Reason.TooLong = (omega arith, omega arith)
number_bounds Reason.Padding = (omega arith, omega arith)
number_bounds Reason.Origin = (omega arith, omega arith)
number_bounds Reason.Number = (omega arith, omega arith)
number_bounds Reason.Stamp = (omega arith, omega arith)
number_bounds Reason.Condition = (omega arith, omega arith)
number_bounds Reason.Asked = (omega arith, omega arith)
number_bounds Reason.BoxSize = (omega arith, omega arith)
number_bounds Reason.MarksRoom = (omega arith, omega arith)
number_bounds Reason.PathRoom = (omega arith, omega arith)
number_bounds Reason.Room = (omega arith, omega arith)
number_bounds Reason.Level = (omega arith, omega arith)
number_bounds Reason.NoRecord = (omega arith, omega arith)

reasons : List Reason
reasons = Reason.TooShort ∷ Reason.Stations ∷ Reason.TooLong ∷ Reason.Padding ∷ Reason.Origin ∷ Reason.Number ∷ Reason.Stamp ∷ Reason.Condition ∷ Reason.Asked ∷ Reason.BoxSize ∷ Reason.MarksRoom ∷ Reason.PathRoom ∷ Reason.Room ∷ Reason.Level ∷ Reason.NoRecord ∷ []

back : (k : Reason) → get_or reasons (number_of k - 1) Reason.NoRecord ≡ k
unfolding number_of reasons
back Reason.TooShort = refl
back Reason.Stations = refl
back Reason.TooLong = refl
back Reason.Padding = refl
back Reason.Origin = refl
back Reason.Number = refl
back Reason.Stamp = refl
back Reason.Condition = refl
back Reason.Asked = refl
back Reason.BoxSize = refl
back Reason.MarksRoom = refl
back Reason.PathRoom = refl
back Reason.Room = refl
back Reason.Level = refl
back Reason.NoRecord = refl

pub number_own : (k l : Reason) → number_of k ≡ number_of l → k ≡ l
number_own k l e = sym (back k) ∙ (ap (λ n. get_or reasons (n - 1) Reason.NoRecord) e ∙ back l)

pub number_unique : (k : Reason) (r r' : ℕ) → r ≡ number_of k → r' ≡ number_of k → r ≡ r'
number_unique k r r' e f = e ∙ sym f

pub whole_unique : (k : Reason) (x x' : Refusal) → x ≡ whole k → x' ≡ whole k → x ≡ x'
whole_unique k x x' e f = e ∙ sym f
