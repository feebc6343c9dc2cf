-- Laws of ways. In order: the cut that a way comes to; what holds all along; beginnings. Assumes nothing.
use mathlib.Core.Path.{◌≡◌, ap, ◌∙◌}
use mathlib.Core.List.{List, [], ◌∷◌}
use Prim.Native.Nat.{ℕ, suc, ◌<◌}
use native.Mathlib.Omega.{arith}
use lib.ListN.{length, length-replicate}
use Rattle.cuts.specs.Cut.{at, zeros, forward, total, Within}
use Rattle.cuts.specs.Way.{cut_of, Along, start, step, Moment, last, earlier, Begins, whole, longer}
use Rattle.cuts.specs.Orders.{often}
use Rattle.cuts.proofs.CutLaws.{within_zeros, within_forward, length_forward, at_forward, at_zeros, total_forward, total_zeros}

pub cut_of-length : (m way : List ℕ) → length (cut_of m way) ≡ length m
cut_of-length m [] = length-replicate (length m) 0
cut_of-length m (p ∷ way) = length_forward p (cut_of m way) ∙ cut_of-length m way

-- two recordings with as many stations have the same cuts
pub cut_of-same : (m k : List ℕ) → length m ≡ length k → (way : List ℕ) → cut_of m way ≡ cut_of k way
cut_of-same m k e [] = ap zeros e
cut_of-same m k e (p ∷ way) = ap (forward p) (cut_of-same m k e way)

-- a station's count in the cut that a way comes to is how often it stands in the way
pub cut_of-often : (m way : List ℕ) (p : ℕ) → p < length m → at (cut_of m way) p ≡ often p way
unfolding often
cut_of-often m [] p h = at_zeros (length m) p
cut_of-often m (q ∷ way) p h = at_forward q p (cut_of m way) (rw (cut_of-length m way) h) ∙ omega (arith, cut_of-often m way p h)

module _ {m : List ℕ} {P : List ℕ → Type 0} where
  pub along_within : {way : List ℕ} → Along m P way → Within m (cut_of m way)
  along_within (start x) = within_zeros m
  along_within (step {p = p} {way = way} h r x a) = within_forward m (cut_of m way) p (along_within a) r

  pub along_last : {way : List ℕ} → Along m P way → P (cut_of m way)
  along_last (start x) = x
  along_last (step h r x a) = x

  pub along_map : {R : List ℕ → Type 0} → ((c : List ℕ) → P c → R c) → {way : List ℕ} → Along m P way → Along m R way
  along_map f (start x) = start (f _ x)
  along_map f (step h r x a) = step h r (f _ x) (along_map f a)

  pub along_total : {way : List ℕ} → Along m P way → total (cut_of m way) ≡ length way
  along_total (start x) = total_zeros (length m)
  along_total (step {p = p} {way = way} h r x a) = total_forward p (cut_of m way) (rw (cut_of-length m way) h) ∙ ap suc (along_total a)

  -- what holds all along, with what holds at a moment
  pub moment_along : {R : List ℕ → Type 0} {way : List ℕ} → Along m P way → Moment m R way → (c : List ℕ) × Within m c × P c × R c
  moment_along {way = way} a (last y) = (cut_of m way, along_within a, along_last a, y)
  moment_along (step h r x a) (earlier y) = moment_along a y

pub begins_step : {p : ℕ} {way on : List ℕ} → Begins (p ∷ way) on → Begins way on
begins_step whole = longer whole
begins_step (longer b) = longer (begins_step b)

pub begins_moment : {m : List ℕ} {P : List ℕ → Type 0} {way on : List ℕ} → Begins way on → P (cut_of m way) → Moment m P on
begins_moment whole h = last h
begins_moment (longer b) h = earlier (begins_moment b h)
