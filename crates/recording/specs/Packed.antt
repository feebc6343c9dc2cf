-- A packed recording as a value of the code: its bytes, in its form.
use Rattle.std.specs.Prelude.{List, ℕ}
use Rattle.recording.specs.Form.{n_at}
use Rattle.recording.specs.declared.packed.Packed.{Packed}

-- what a definition over lead, w and the bytes says of it
abbrev pub over : {A : Type 0} → Packed → (ℕ → ℕ → List ℕ → A) → A
over k f = f k.form.lead k.form.width k.bytes.now

-- its n
abbrev pub n_of : Packed → ℕ
n_of k = n_at k.form.lead k.bytes.now
