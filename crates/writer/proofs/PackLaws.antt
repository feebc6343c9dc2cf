-- Laws of what the writer puts: it changes no bit beside its own place (`Kept`), and each field reads back. In order: what is kept; one field; turns of
-- a loop; counts; a station's part; a record; zero bits. Assumes nothing.
use mathlib.Core.Path.{◌≡◌, refl, ap, ◌∙◌}
use mathlib.Core.Bool.{Bool, true, false, cond}
use mathlib.Core.Logic.{◌⊎◌, inl, inr, ⊎_elim}
use mathlib.Core.List.{List}
use Prim.Native.Nat.{ℕ, zero, suc, ◌+◌, ◌-◌, ◌*◌, ◌/◌, ◌^◌, ◌≤◌, ◌<◌}
use native.Mathlib.Nat.{le_refl, add-zero, add-suc, mul-le-mul_left}
use native.Mathlib.Decide.{dec_lt}
use native.Mathlib.Numerals.{add-one}
use native.Mathlib.Omega.{arith}
use lib.Pow.{pow_pos}
use lib.IntN.{ℤ, pos}
use lib.ListN.{length, get_or, take, drop, length-take, get_or-eq_default}
use lib.Seq.{get_or-take}
use Rattle.bits.specs.Bits.{field}
use Rattle.put.specs.Put.{is_put, put_at, put_of}
use Rattle.put.proofs.PutLaws.{put_length, put_same, put_beside, put_bytes, put_drop, is_put-fits, put_of-fits}
use Rattle.levels.specs.Level.{twos, bits_of, is_level}
use Rattle.levels.proofs.LevelLaws.{level_field, level_bits_lem}
use Rattle.cuts.specs.Cut.{at}
use Rattle.recording.specs.Form.{bytes_for, station_bit, record_bit}
use Rattle.writer.specs.Write.{Given, first_given}
use Rattle.writer.specs.Tables.{level_put}
use Rattle.writer.proofs.WriterLaws.{level_put-of}
use Rattle.writer.specs.Pack.{turns, put_padding, put_count, put_pair, put_record, station_turn, record_turn, end_given, ended, stationed, pack_into}

-- t is s but for bits from a on and before b
pub record Kept (s t : List ℕ) (a b : ℕ) : Type 0 where
  pub long : length t ≡ length s
  pub beside : (i k : ℕ) → (i + k ≤ a) ⊎ (b ≤ i) → field t i k ≡ field s i k
  pub bytes : ((i : ℕ) → get_or s i 0 < 256) → (i : ℕ) → get_or t i 0 < 256
  pub behind : (c : ℕ) → b ≤ 8 * c → drop c t ≡ drop c s

-- the front of bytes is bytes
pub take_bytes : (b : ℕ) (s : List ℕ) → ((i : ℕ) → get_or s i 0 < 256) → (i : ℕ) → get_or (take b s) i 0 < 256
take_bytes b s h i = go (dec_lt i b)
  where
    go : Dec (i < b) → get_or (take b s) i 0 < 256
    go (yes l) = rw (get_or-take b s i 0 l) (h i)
    go (no l) =
        let k : length (take b s) ≤ i = omega (arith, length-take b s) in
        omega (arith, get_or-eq_default (take b s) 0 k)

pub kept_same : (s : List ℕ) (a b : ℕ) → Kept s s a b
kept_same s a b = record { long = refl; beside = λ i k h. refl; bytes = λ h. h; behind = λ c h. refl }

-- one change after another, both from x on and before y
pub kept_then : {s t u : List ℕ} {a b c d : ℕ} (x y : ℕ) → Kept s t a b → Kept t u c d → (x ≤ a) × (b ≤ y) → (x ≤ c) × (d ≤ y) → Kept s u x y
kept_then x y h g (l, m) (l', m') = record {
  long = g.long ∙ h.long;
  beside = λ i k e. g.beside i k (⊎_elim (λ z. inl (omega arith)) (λ z. inr (omega arith)) e) ∙ h.beside i k (⊎_elim (λ z. inl (omega arith)) (λ z. inr (omega arith)) e);
  bytes = λ z. g.bytes (h.bytes z);
  behind = λ n e. g.behind n (omega arith) ∙ h.behind n (omega arith);
}

pub kept_put : (s : List ℕ) (i k v : ℕ) → Kept s (put_of s i k v) i (i + k)
unfolding put_of
kept_put s i k v = go (is_put s i k v) refl
  where
    go : (b : Bool) → is_put s i k v ≡ b → Kept s (cond b (put_at s i k v) s) i (i + k)
    go true e = record {
      long = put_length s i k v;
      beside = λ j n h. put_beside s i k v j n (is_put-fits s i k v e).2 h;
      bytes = put_bytes s i k v;
      behind = put_drop s i k v;
    }
    go false e = kept_same s i (i + k)

pub put_field : (s : List ℕ) (i k v : ℕ) → 1 ≤ k → k ≤ 16 → i + k ≤ 8 * length s → v < 2 ^ k → field (put_of s i k v) i k ≡ v
put_field s i k v h₁ h₂ h₃ h₄ = rw (put_of-fits s i k v h₁ h₂ h₃ h₄) (put_same s i k v h₄ h₃)

-- one turn more, where t is what the turns before left
pub turns_more : (turn : ℕ → List ℕ → List ℕ) (s t : List ℕ) (j : ℕ) → t ≡ turns turn s j → turn j t ≡ turns turn s (j + 1)
unfolding turns
turns_more turn s t j e = rw (add-one j, e) refl

pub turns_none : (turn : ℕ → List ℕ → List ℕ) (s : List ℕ) → s ≡ turns turn s 0
unfolding turns
turns_none turn s = refl

-- a turn as the code makes it, of the loops over counts and stations
pub count_more : (w i q x : ℕ) (count : ℕ → ℕ) (s t : List ℕ) → x ≡ count q → t ≡ turns (put_count w i count) s q → put_of t (i + w * q) w x ≡ turns (put_count w i count) s (q + 1)
unfolding put_count
count_more w i q x count s t e h = rw e (turns_more (put_count w i count) s t q h)

pub station_more : (lead w : ℕ) (g : Given) (p i m bits : ℕ) (s t : List ℕ) → i ≡ station_bit lead w p → m ≡ at g.counts p → bits ≡ level_put (get_or g.starts p (pos 0))
    → t ≡ turns (station_turn lead w g) s p → put_pair w i m bits t ≡ turns (station_turn lead w g) s (p + 1)
unfolding station_turn
station_more lead w g p i m bits s t e₁ e₂ e₃ h = rw (e₁, e₂, e₃) (turns_more (station_turn lead w g) s t p h)

pub record_is : (lead w : ℕ) (g : Given) (r i o k bits : ℕ) (s t u x : List ℕ)
    → i ≡ record_bit lead w g.n r → o ≡ at g.origins r → k ≡ at g.numbers r → bits ≡ level_put (get_or g.levels r (pos 0)) → t ≡ put_of s i 4 o → u ≡ put_pair w (i + 4) k bits t
    → x ≡ turns (put_count w (i + 16 + w) (λ q. at g.stamps (r * g.n + q))) u g.n → x ≡ record_turn lead w g r s
unfolding record_turn put_record put_pair
record_is lead w g r i o k bits s t u x e₁ e₂ e₃ e₄ e₅ e₆ e₇ = rw (e₇, e₆, e₅, e₁, e₂, e₃, e₄) refl

-- turns of which number j changes only bits from b j on and before b (j + 1)
module _ (turn : ℕ → List ℕ → List ℕ) (b : ℕ → ℕ) (up : (j : ℕ) → b j ≤ b (suc j)) (kept : (j : ℕ) (s : List ℕ) → Kept s (turn j s) (b j) (b (suc j))) (s : List ℕ) where
  up_by : (j d : ℕ) → b j ≤ b (j + d)
  up_by j zero = rw (add-zero j) (le_refl (b j))
  up_by j (suc d) = rw (add-suc j d) (omega (arith, up_by j d, up (j + d)))

  -- what the turns from j on change
  kept_later : (j d : ℕ) → Kept (turns turn s j) (turns turn s (j + d)) (b j) (b (j + d))
  unfolding turns
  kept_later j zero = rw (add-zero j) (kept_same (turns turn s j) (b j) (b j))
  kept_later j (suc d) =
      rw (add-suc j d)
      (kept_then (b j) (b (suc (j + d))) (kept_later j d) (kept (j + d) (turns turn s (j + d))) (le_refl (b j), up (j + d)) (up_by j d, le_refl (b (suc (j + d)))))

  pub kept_turns : (n : ℕ) → Kept s (turns turn s n) (b 0) (b n)
  unfolding turns
  kept_turns n =
      let e : 0 + n ≡ n = omega arith in
      rw e at (kept_later 0 n)

  -- a field within what turn j puts is as that turn left it
  pub turns_field : (n j i k : ℕ) → j < n → i + k ≤ b (suc j) → field (turns turn s n) i k ≡ field (turn j (turns turn s j)) i k
  unfolding turns
  turns_field n j i k h l =
      let e : suc j + (n - suc j) ≡ n = omega arith in
      (rw e at (kept_later (suc j) (n - suc j))).beside i k (inl l)

-- the ends, and the whole, as the code makes them
pub ends_are : (lead w : ℕ) (g : Given) (i k : ℕ) (s b c : List ℕ) → i ≡ end_given lead w g → k ≡ bytes_for i → b ≡ put_of s (lead - 4) 4 g.n → c ≡ put_of b i (8 * k - i) 0 → c ≡ ended lead w g s
unfolding ended put_padding
ends_are lead w g i k s b c ei ek eb ec = rw (ec, ek, ei, eb) refl

pub pack_is : (lead w : ℕ) (g : Given) (s a b c : List ℕ) → a ≡ ended lead w g s → b ≡ turns (station_turn lead w g) a g.n → c ≡ turns (record_turn lead w g) b (first_given g g.n)
    → c ≡ pack_into lead w g s
unfolding pack_into stationed
pack_is lead w g s a b c ea eb ec = rw (ec, eb, ea) refl

module _ (w i : ℕ) (count : ℕ → ℕ) where
  kept_count : (q : ℕ) (s : List ℕ) → Kept s (put_count w i count q s) (i + w * q) (i + w * suc q)
  unfolding put_count
  kept_count q s =
      let e : i + w * q + w ≡ i + w * suc q = omega arith in
      rw e at (kept_put s (i + w * q) w (count q))

  count_up : (q : ℕ) → i + w * q ≤ i + w * suc q
  count_up q = omega arith

  pub kept_counts : (s : List ℕ) (n : ℕ) → Kept s (turns (put_count w i count) s n) i (i + w * n)
  kept_counts s n =
      let e : i + w * 0 ≡ i = omega arith in
      rw e at (kept_turns (put_count w i count) (λ q. i + w * q) count_up kept_count s n)

  pub counts_field : (s : List ℕ) (n q : ℕ) → 1 ≤ w → w ≤ 16 → i + w * n ≤ 8 * length s → q < n → count q < 2 ^ w → field (turns (put_count w i count) s n) (i + w * q) w ≡ count q
  unfolding put_count
  counts_field s n q h₁ h₂ h₃ l f =
      let e : i + w * q + w ≡ i + w * suc q = omega arith in
      let r : i + w * q + w ≤ 8 * length (turns (put_count w i count) s q) = rw (kept_counts s q).long (omega (arith, mul-le-mul_left w l)) in
      turns_field (put_count w i count) (λ j. i + w * j) count_up kept_count s n q (i + w * q) w l (omega arith)
      ∙ put_field (turns (put_count w i count) s q) (i + w * q) w (count q) h₁ h₂ r f

-- a level's bits read back
pub put_level : (s : List ℕ) (i bits : ℕ) (v : ℤ) → bits ≡ level_put v → i + 12 ≤ 8 * length s → is_level v ≡ true → twos 12 (field (put_of s i 12 bits) i 12) ≡ v
put_level s i bits v e h l = rw (e, level_put-of v l) (ap (twos 12) (put_field s i 12 (bits_of 12 v) (omega arith) (omega arith) h (level_bits_lem v l)) ∙ level_field v l)

-- a station's part
module _ (w i m bits : ℕ) (s : List ℕ) where
  pub kept_station : Kept s (put_pair w i m bits s) i (i + w + 12)
  unfolding put_pair
  kept_station = kept_then i (i + w + 12) (kept_put s i w m) (kept_put (put_of s i w m) (i + w) 12 bits) (le_refl i, omega arith) (omega arith, le_refl (i + w + 12))

  module _ (room : i + w + 12 ≤ 8 * length s) where
    pub station_count : 1 ≤ w → w ≤ 16 → m < 2 ^ w → field (put_pair w i m bits s) i w ≡ m
    unfolding put_pair
    station_count h₁ h₂ f = (kept_put (put_of s i w m) (i + w) 12 bits).beside i w (inl (le_refl (i + w))) ∙ put_field s i w m h₁ h₂ (omega arith) f

    pub station_start : (v : ℤ) → bits ≡ level_put v → is_level v ≡ true → twos 12 (field (put_pair w i m bits s) (i + w) 12) ≡ v
    unfolding put_pair
    station_start v e l = put_level (put_of s i w m) (i + w) bits v e (rw (kept_put s i w m).long room) l

-- a record
module _ (w i o k bits : ℕ) (count : ℕ → ℕ) (n : ℕ) (s : List ℕ) where
  abbrev s₁ : List ℕ
  s₁ = put_of s i 4 o

  abbrev s₂ : List ℕ
  s₂ = put_of s₁ (i + 4) w k

  abbrev s₃ : List ℕ
  s₃ = put_of s₂ (i + 4 + w) 12 bits

  kept₁ : Kept s s₁ i (i + 4)
  kept₁ = kept_put s i 4 o

  kept₂ : Kept s₁ s₂ (i + 4) (i + 4 + w)
  kept₂ = kept_put s₁ (i + 4) w k

  kept₃ : Kept s₂ s₃ (i + 4 + w) (i + 4 + w + 12)
  kept₃ = kept_put s₂ (i + 4 + w) 12 bits

  kept₄ : Kept s₃ (put_record w i o k bits count n s) (i + 16 + w) (i + 16 + w + w * n)
  unfolding put_record
  kept₄ = kept_counts w (i + 16 + w) count s₃ n

  kept_head : Kept s s₃ i (i + 16 + w)
  kept_head = kept_then i (i + 16 + w) (kept_then i (i + 4 + w) kept₁ kept₂ (omega arith) (omega arith)) kept₃ (omega arith) (omega arith)

  pub kept_record : Kept s (put_record w i o k bits count n s) i (i + 16 + w + w * n)
  kept_record = kept_then i (i + 16 + w + w * n) kept_head kept₄ (omega arith) (omega arith)

  module _ (room : i + 16 + w + w * n ≤ 8 * length s) where
    pub record_origin : o < 16 → field (put_record w i o k bits count n s) i 4 ≡ o
    record_origin f =
        kept₄.beside i 4 (inl (omega arith)) ∙ kept₃.beside i 4 (inl (omega arith)) ∙ kept₂.beside i 4 (inl (omega arith))
        ∙ put_field s i 4 o (omega arith) (omega arith) (omega arith) f

    pub record_number : 1 ≤ w → w ≤ 16 → k < 2 ^ w → field (put_record w i o k bits count n s) (i + 4) w ≡ k
    record_number h₁ h₂ f =
        kept₄.beside (i + 4) w (inl (omega arith)) ∙ kept₃.beside (i + 4) w (inl (omega arith))
        ∙ put_field s₁ (i + 4) w k h₁ h₂ (rw kept₁.long (omega arith)) f

    pub record_level : (v : ℤ) → bits ≡ level_put v → is_level v ≡ true → twos 12 (field (put_record w i o k bits count n s) (i + 4 + w) 12) ≡ v
    record_level v e l =
        ap (twos 12) (kept₄.beside (i + 4 + w) 12 (inl (omega arith))) ∙ put_level s₂ (i + 4 + w) bits v e (rw (kept₂.long, kept₁.long) (omega arith)) l

    pub record_count : 1 ≤ w → w ≤ 16 → (q : ℕ) → q < n → count q < 2 ^ w → field (put_record w i o k bits count n s) (i + 16 + w + w * q) w ≡ count q
    unfolding put_record
    record_count h₁ h₂ q l f = counts_field w (i + 16 + w) count s₃ n q h₁ h₂ (rw kept_head.long room) l f

-- zero bits up to a whole byte
module _ (i : ℕ) (s : List ℕ) where
  zero_field : (k : ℕ) → k ≤ 7 → i + k ≤ 8 * length s → field (put_of s i k 0) i k ≡ 0
  unfolding field
  zero_field zero a b = refl
  zero_field (suc k) a b = put_field s i (suc k) 0 (omega arith) (omega arith) b (pow_pos (suc k))

  pub kept_padding : Kept s (put_padding i s) i (8 * bytes_for i)
  unfolding put_padding bytes_for
  kept_padding =
      let e : i + (8 * ((i + 7) / 8) - i) ≡ 8 * ((i + 7) / 8) = omega arith in
      rw e at (kept_put s i (8 * ((i + 7) / 8) - i) 0)

  pub padding_field : 8 * bytes_for i ≤ 8 * length s → field (put_padding i s) i (8 * bytes_for i - i) ≡ 0
  unfolding put_padding bytes_for
  padding_field h = zero_field (8 * ((i + 7) / 8) - i) (omega arith) (omega arith)
