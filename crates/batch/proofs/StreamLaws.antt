-- Bytes at the front of a room. In order: as many as there are, and no more than k; the text of the
-- reply to what is looked at of a job, with a newline behind it. Assumes nothing.
use mathlib.Core.Path.{◌≡◌, refl, sym, ◌∙◌}
use mathlib.Core.List.{List, ◌++◌}
use Prim.Native.Nat.{ℕ, ◌+◌, ◌≤◌, ◌<◌, min}
use native.Mathlib.Decide.{dec_le}
use native.Mathlib.Omega.{arith}
use lib.ListN.{length, take, set}
use lib.Seq.{take_all, take-length}
use Rattle.text.specs.Text.{newline, Printed}
use Rattle.reply.specs.Answer.{text_of}
use Rattle.std.specs.Prelude.{Some}
use Rattle.fits.proofs.RoomLaws.{IsPrefixLen, length_after, place_behind, byte_behind}
use Rattle.fits.proofs.TextFits.{text_fits}

take_min : (k : ℕ) (l : List ℕ) → take (min (length l) k) l ≡ take k l
take_min k l = go (dec_le (length l) k)
  where
    go : Dec (length l ≤ k) → take (min (length l) k) l ≡ take k l
    go (yes h) =
        let e : min (length l) k ≡ length l = omega (arith, h) in
        rw e (take-length l ∙ sym (take_all k l h))
    go (no h) =
        let e : min (length l) k ≡ k = omega (arith, h) in
        rw e refl

module _ (job room after : List ℕ) (k n r : ℕ) (looked : n ≡ min (length job) k) (long : 4141 ≡ length room) (put : Printed (text_of (take n job)) room (Some r) after) where
  text_place : length (text_of (take n job)) < length room
  text_place = omega (arith, long, text_fits (take n job))

  pub newline_place : r < length after
  newline_place = place_behind _ _ after text_place r put

  pub long_after : length after ≡ 4141
  long_after = length_after _ _ after (omega (arith, text_place)) r put ∙ sym long

  pub newline_put : (take (r + 1) (set after r 10) ≡ text_of (take k job) ++ newline) × IsPrefixLen (r + 1) (set after r 10)
  newline_put =
      let same : take k job ≡ take n job = rw looked (sym (take_min k job)) in
      rw same (byte_behind _ _ after text_place r put 10)
