-- The settled examples 1 to 8 of document 01 as values of the mathematics: recordings A, B and E, and what is to be answered on them.
-- The definitions are tried on them by computation (`Settled`). Levels here are plain numbers: the examples have no others.
use Rattle.std.specs.Prelude.{◌≡◌, Bool, true, false, ◌&&◌, List, [], ◌∷◌, map, ℕ, zero, suc, ◌+◌, eqb}
use Rattle.std.proofs.Math.Option.{Option, none, some}
use Rattle.cuts.specs.Below.{own}
use Rattle.cuts.specs.Trace.{Messages, Stamps, Levels, lattice, at_cut}
use Rattle.cuts.specs.Verdict.{Lattice}
use Rattle.cuts.specs.Computed.{poss_of, def_of}

-- "start levels 0 and 0, station 1 steps to level 1 .., station 2 .. level 1"
abbrev levels : Levels ℕ
levels p zero = 0
levels p (suc e) = 1

-- A: "station 2 receives from event 1 of station 1", stamps 1 0 and 1 1
abbrev a_messages : Messages
a_messages = record { counts = 1 ∷ 1 ∷ []; origin = λ p e. p; number = λ p e. p }

abbrev a_stamps : Stamps
a_stamps p zero q = 0
a_stamps zero (suc e) q = own 0 q
a_stamps (suc p) (suc e) q = 1

-- B: "station 2's event a local step, stamp 0 1"
abbrev b_messages : Messages
b_messages = record { counts = 1 ∷ 1 ∷ []; origin = λ p e. 0; number = λ p e. 0 }

abbrev b_stamps : Stamps
b_stamps p zero q = 0
b_stamps p (suc e) q = own p q

-- E: "n = 1, no events, level 0"
abbrev e_messages : Messages
e_messages = record { counts = 0 ∷ []; origin = λ p e. 0; number = λ p e. 0 }

-- "sum 1 to 1" of both; station 1 at x together with station 2 at y; "Together, none asked"; "sum 1 to 1, none asked"
abbrev sum_1 : (ℕ → ℕ) → Bool
sum_1 v = eqb (v 0 + v 1) 1

abbrev together : ℕ → ℕ → (ℕ → ℕ) → Bool
together x y v = eqb (v 0) x && eqb (v 1) y

abbrev always : (ℕ → ℕ) → Bool
always v = true

abbrev never : (ℕ → ℕ) → Bool
never v = false

pub record Row : Type 0 where
  pub lattice_of : Lattice
  pub poss : Option (List ℕ)
  pub def : Option (List ℕ)

abbrev row : Messages → Stamps → ((ℕ → ℕ) → Bool) → Option (List ℕ) → Option (List ℕ) → Row
row T S condition poss def = record { lattice_of = lattice T S (at_cut levels condition); poss = poss; def = def }

-- the witness's counts, and the path's places (station 1 is place 0)
abbrev pub rows : List Row
rows =
    row a_messages a_stamps sum_1 (some (1 ∷ 0 ∷ [])) none
    ∷ row b_messages b_stamps sum_1 (some (1 ∷ 0 ∷ [])) none
    ∷ row b_messages b_stamps (together 1 0) (some (1 ∷ 0 ∷ [])) (some (1 ∷ 0 ∷ []))
    ∷ row a_messages a_stamps (together 1 0) (some (1 ∷ 0 ∷ [])) none
    ∷ row a_messages a_stamps (together 0 1) none (some (0 ∷ 1 ∷ []))
    ∷ row b_messages b_stamps (together 0 1) (some (0 ∷ 1 ∷ [])) (some (0 ∷ 1 ∷ []))
    ∷ row e_messages b_stamps always (some (0 ∷ [])) none
    ∷ row e_messages b_stamps never none (some [])
    ∷ []

-- what the computed verdicts give on each row is what the row says
abbrev pub Settled : Type 0
Settled = (map (λ r. poss_of r.lattice_of) rows ≡ map (λ r. r.poss) rows) × (map (λ r. def_of r.lattice_of) rows ≡ map (λ r. r.def) rows)
