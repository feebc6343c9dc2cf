-- The writer keeps its promise, which permits one reply with one room (`write_unique`), since a recording has one packing. Assumes nothing.
use mathlib.Core.Path.{◌≡◌, refl, sym, ap, ◌∙◌}
use mathlib.Core.List.{List, ◌++◌}
use Prim.Native.Nat.{ℕ, ◌≤◌, ◌<◌}
use lib.ListN.{length, get_or, drop}
use Rattle.std.specs.Prelude.{Result, Ok, Err}
use Rattle.cuts.specs.Cut.{at}
use Rattle.recording.specs.Form.{lead8, width8}
use Rattle.refusal.specs.declared.Refusal.{Refusal}
use Rattle.writer.specs.Write.{Given, recording_given, needed_given, checked_given, Wrote, refused, done}
use Rattle.writer.specs.Pack.{pack_into}
use Rattle.writer.proofs.PackRight.{packs_given}
use Rattle.writer.proofs.RoundTrip.{packs_same}

-- the reply where nothing is refused, as the code gives it
pub wrote_done : (lead w : ℕ) (g : Given) (room after : List ℕ) (b : ℕ) → 4 ≤ lead → 8 ≤ w → w ≤ 16 → ((i : ℕ) → at g.counts i < 256) → ((i : ℕ) → get_or room i 0 < 256)
    → Ok tt ≡ checked_given lead w g (length room) → after ≡ pack_into lead w g room → b ≡ needed_given lead w g → Wrote lead w g room after (Ok b)
wrote_done lead w g room after b leads wide high bytes room-bytes h ea eb =
    let p = packs_given lead w g room leads wide high bytes room-bytes (sym h) in
    let z : b ≡ length p.front = eb ∙ sym p.just in
    rw z (done (sym h) p.packs (ea ∙ p.rest))

-- .. and where something is
pub wrote_refused : (lead w : ℕ) (g : Given) (room : List ℕ) (x : Refusal) → Err x ≡ checked_given lead w g (length room) → Wrote lead w g room room (Err x)
wrote_refused lead w g room x h = refused (sym h) refl

-- two replies that the promise permits are equal, with their rooms
pub write_unique : (g : Given) (room after after' : List ℕ) (r r' : Result ℕ Refusal) → Wrote lead8 width8 g room after r → Wrote lead8 width8 g room after' r' → (r ≡ r') × (after ≡ after')
write_unique g room after after' r r' (refused h e) (refused h' e') = (ap Err cc, e ∙ sym e')
write_unique g room after after' r r' (refused h e) (done h' p' e') = cc
write_unique g room after after' r r' (done h p e) (refused h' e') = cc
write_unique g room after after' r r' (done {s = s} h p e) (done {s = s'} h' p' e') =
    let same : s ≡ s' = packs_same 8 (recording_given g) s s' p p' in
    (ap (λ (l : List ℕ). Ok (length l)) same, e ∙ ap (λ (l : List ℕ). l ++ drop (length l) room) same ∙ sym e')
