-- Laws of the lookup: each way through the code is one law. In order: a level's bits read as a signed number; the full cut; a stamp; event 0; an event
-- with a record; the answers, and that there is one. Assumes nothing.
use mathlib.Core.Path.{◌≡◌, refl, sym, ap, ◌∙◌}
use mathlib.Core.Bool.{Bool, true, false, ◌&&◌, cond}
use mathlib.Core.List.{List, ◌++◌}
use Prim.Native.Nat.{ℕ, zero, suc, ◌+◌, ◌-◌, ◌*◌, ◌%◌, ◌≤◌, ◌<◌}
use native.Mathlib.Nat.{lt_trans}
use native.Mathlib.Decide.{dec_lt}
use native.Mathlib.Numerals.{add-one}
use native.Mathlib.Omega.{arith}
use lib.Dec.{leb, ltb, lit<}
use lib.ListN.{length, replicate, take, drop}
use lib.Seq.{drop-cons, append_snoc}
use lib.IntN.{ℤ}
use mir.Syntax.{w16}
use mir.Val.{to_z, of_z, SFits}
use mir.Facts.{to_z-of_z}
use borrow.Author.Tests.{leb-true, lt-ltb, le-ltb}
use Rattle.std.specs.Prelude.{sum, Result, Ok, Err}
use Rattle.std.proofs.lemmas.List.{get_or-replicate}
use Rattle.std.proofs.lemmas.List.Sums.{sum_by_more}
use Rattle.bits.specs.Bits.{field, peeked}
use Rattle.cuts.proofs.ReplyLaws.{replies_equal}
use Rattle.cuts.proofs.TabLaws.{tab_full}
use Rattle.levels.specs.Level.{twos}
use Rattle.levels.proofs.LevelLaws.{twos_mag}
use Rattle.cuts.specs.Below.{sum_to, tab}
use Rattle.cuts.specs.Cut.{at}
use Rattle.cut.specs.declared.Cut.{Cut}
use Rattle.cuts.proofs.BelowLaws.{and_true, length_tab, get_d-tab, sum_to-same, tab_same}
use Rattle.recording.specs.Recording.{Recording, counts_of, stamps}
use Rattle.recording.specs.Form.{station_bit, record_bit, n_at, m_at, start_at, first_at, origin_at, number_at, level_at, count_at, recording_of}
use Rattle.recording.specs.Check.{checked_of}
use Rattle.recording.specs.Decode.{events_at, full_of}
use Rattle.recording.proofs.AcceptedRight.{accepted_accepts}
use Rattle.recording.proofs.FormLaws.{stations_read, count_read, origin_read, number_read, level_read, stamp_read, start_read}
use Rattle.recording.proofs.PlaceLaws.{peeked_read, first_at-le, first_at-lt}
use Rattle.recording.proofs.DecodeLaws.{events_at-in}
use Rattle.refusal.specs.Refusal.{whole}
use Rattle.refusal.specs.declared.Reason.{Reason}
use Rattle.refusal.specs.declared.Refusal.{Refusal}
use Rattle.lookup.specs.Lookup.{is_recorded, place_of, found_of, looked_up, lookup_of, counted}
use Rattle.lookup.specs.declared.Record.{Record}

-- a level's 12 bits as a signed number, which 16 bits hold
pub level_signed : (f : ℕ) (z : ℤ) → f < 4096 → z ≡ twos 12 (f % 4096) → to_z w16 (of_z w16 z) ≡ twos 12 f
level_signed f z h e =
    let m : f % 4096 ≡ f = omega arith in
    let g : z ≡ twos 12 f = rw m at e in
    let near : SFits w16 z = rw g (record { sfits = lt_trans (twos_mag 12 f h (omega arith)) (lit< tt) }) in
    to_z-of_z near ∙ g

-- .. where they are a start level's
pub start_signed : (lead w : ℕ) (s : List ℕ) (p b f : ℕ) (z : ℤ) → b ≡ station_bit lead w p + w → f ≡ peeked s b 12 → z ≡ twos 12 (f % 4096) → to_z w16 (of_z w16 z) ≡ start_at lead w s p
unfolding start_at
start_signed lead w s p b f z eb ef g =
    let (e, h) = peeked_read s b (station_bit lead w p + w) 12 12 f ef eb (omega arith) (omega arith) in
    level_signed f z h g ∙ ap (twos 12) e

-- the full cut's n and counts
pub full_stations : (lead w : ℕ) (s : List ℕ) (c : Cut) → c ≡ full_of lead w s → c.n ≡ n_at lead s
unfolding full_of
full_stations lead w s c e = ap (λ (x : Cut). x.n) e

pub full_counts : (lead w : ℕ) (s : List ℕ) (c : Cut) → c ≡ full_of lead w s → c.counts ≡ tab 8 (events_at lead w s (n_at lead s))
unfolding full_of
full_counts lead w s c e = ap (λ (x : Cut). x.counts) e

-- in an array of eight
pub count_full : (lead w : ℕ) (s m : List ℕ) → m ≡ tab 8 (events_at lead w s (n_at lead s)) → (p : ℕ) → p < n_at lead s → p < 8 → at m p ≡ m_at lead w s p
count_full lead w s m em p h k = ap (λ (l : List ℕ). at l p) em ∙ get_d-tab 8 _ 0 p k ∙ events_at-in lead w s (n_at lead s) p h

pub counted_in : (w : ℕ) (s : List ℕ) (n b q : ℕ) → q < n → counted w s n b q ≡ field s (b + w * q) w
unfolding counted
counted_in w s n b q h = simp (lt-ltb q n h)

pub counted_beyond : (w : ℕ) (s : List ℕ) (n b q : ℕ) → n ≤ q → counted w s n b q ≡ 0
unfolding counted
counted_beyond w s n b q h = simp (le-ltb q n h)

-- a list that begins with f's values, and goes on with what they are
tab_rest : (f : ℕ → ℕ) (d : List ℕ) (k j : ℕ) → length d ≡ k + j → ((q : ℕ) → k ≤ q → q < k + j → f q ≡ at d q) → tab k f ++ drop k d ≡ tab (k + j) f
unfolding tab
tab_rest f d k zero e h = tab_full k (k + 0) f d (omega arith) (omega arith) e
tab_rest f d k (suc j) e h =
    let i : suc k + j ≡ k + suc j = omega arith in
    rw (drop-cons d k 0 (omega arith), sym (h k (omega arith) (omega arith)), ← append_snoc (tab k f) (f k) (drop (suc k) d), ← i)
    (tab_rest f d (suc k) j (omega arith) (λ q a b. h q (omega arith) (omega arith)))

-- the end of a loop that reads the n counts of a stamp into zeros
pub stamp_whole : (w : ℕ) (s : List ℕ) (n b q : ℕ) → n ≤ 8 → q ≡ n → tab q (counted w s n b) ++ drop q (replicate 8 0) ≡ tab 8 (counted w s n b)
stamp_whole w s n b q h e =
    let i : q + (8 - q) ≡ 8 = omega arith in
    rw (← i) (tab_rest (counted w s n b) (replicate 8 0) q (8 - q) (sym i) (λ j k l. counted_beyond w s n b j (omega arith) ∙ sym (get_or-replicate 8 j 0 0 (omega arith))))

-- the first p numbers of a list
sum_take : (p : ℕ) (l : List ℕ) → p ≤ length l → sum (take p l) ≡ sum_to p (at l)
unfolding sum_to
sum_take zero l h = refl
sum_take (suc p) l h = rw (← add-one p) (sum_by_more (λ x. x) l p 0 h) ∙ ap (λ x. x + at l p) (sum_take p l (omega arith))

cond_same : (b : Bool) (x : ℕ) → cond b x x ≡ x
cond_same true x = refl
cond_same false x = refl

module _ (lead w : ℕ) (s : List ℕ) (full : Cut) (ef : full ≡ full_of lead w s) (hn : full.n ≤ 8) (p : ℕ) (hp : p < full.n) where
  abbrev R : Recording
  R = recording_of lead w s

  abbrev n : ℕ
  n = full.n

  en : n ≡ n_at lead s
  en = full_stations lead w s full ef

  em : full.counts ≡ tab 8 (events_at lead w s (n_at lead s))
  em = full_counts lead w s full ef

  -- "event 0 of a station 1 to n answers origin 0, number 0, the start level and a stamp of zeros"
  pub found_of-start : (e : ℕ) (l : ℤ) → e ≡ 0 → l ≡ start_at lead w s p → ◌≡◌ {A = Record} (record { origin = 0; number = 0; level = l; stamp = replicate 8 0 }) (found_of R p e)
  unfolding found_of place_of tab
  found_of-start zero l h el = rw (el, start_read lead w s p (omega (arith, en)), tab_same 8 _ _ (λ q k. cond_same (ltb q (length (counts_of R))) 0)) refl
  found_of-start (suc e) l h el = absurd (omega arith)

  -- the records before the station's
  pub records_before : sum (take p full.counts) ≡ first_at lead w s p
  unfolding first_at
  records_before =
      sum_take p full.counts (omega (arith, ap (λ (l : List ℕ). length l) em, length_tab 8 (events_at lead w s (n_at lead s))))
      ∙ sum_to-same p _ _ (λ q h. count_full lead w s full.counts em q (omega (arith, en)) (omega arith))

  -- .. and those before event e's, in file order
  pub record_place : w ≤ 9 → (e : ℕ) → (e ≡ 0 → ⊥) → e ≤ m_at lead w s p → sum (take p full.counts) + (e - 1) < 4096
  record_place hw e h k = omega (arith, records_before, first_at-lt lead w s p (e - 1) n hp (omega arith), first_at-le lead w s n hw)

  place_counted : (e : ℕ) → e < m_at lead w s p → (b : ℕ) → b ≡ record_bit lead w n (first_at lead w s p + e) → (q : ℕ) → counted w s n (b + 16 + w) q ≡ place_of R p (suc e) q
  unfolding place_of count_at
  place_counted e k b eb q = rw (stations_read lead w s, ← en) (go (dec_lt q n))
    where
      go : Dec (q < n) → counted w s n (b + 16 + w) q ≡ cond (ltb q n) (stamps R p (suc e) q) 0
      go (yes g) = rw (lt-ltb q n g, eb) (counted_in w s n _ q g ∙ rw en (sym (stamp_read lead w s p e (omega (arith, en)) k q (omega (arith, en)))))
      go (no g) = rw (le-ltb q n (omega arith)) (counted_beyond w s n (b + 16 + w) q (omega arith))

  -- an event with a record, by what was looked at from its first bit b on
  pub found_of-event : w ≤ 9 → (e : ℕ) → (e ≡ 0 → ⊥) → e ≤ m_at lead w s p → (f b : ℕ) → f ≡ sum (take p full.counts) → b ≡ record_bit lead w n (f + (e - 1)) → (v : ℕ) → v ≡ record_bit lead w n (f + (e - 1)) + 4 + w
      → (o k l : ℕ) (z : ℤ) (t : List ℕ) → o ≡ peeked s b 4 → k ≡ peeked s (b + 4) w → l ≡ peeked s v 12 → z ≡ twos 12 (l % 4096) → t ≡ tab 8 (counted w s n (record_bit lead w n (f + (e - 1)) + 16 + w))
      → ◌≡◌ {A = Record} (record { origin = o; number = k; level = to_z w16 (of_z w16 z); stamp = t }) (found_of R p e)
  unfolding found_of origin_at number_at level_at
  found_of-event hw zero h g f b ef eb v ev o k l z t eo ek el ez et = absurd (h refl)
  found_of-event hw (suc e) h g f b ef eb v ev o k l z t eo ek el ez et = go (rw r at eb) (rw r at ev) (rw r at et)
    where
      r : f + (suc e - 1) ≡ first_at lead w s p + e
      r = omega (arith, records_before)

      go : b ≡ record_bit lead w n (first_at lead w s p + e) → v ≡ record_bit lead w n (first_at lead w s p + e) + 4 + w
          → t ≡ tab 8 (counted w s n (record_bit lead w n (first_at lead w s p + e) + 16 + w)) → ◌≡◌ {A = Record} (record { origin = o; number = k; level = to_z w16 (of_z w16 z); stamp = t }) (found_of R p (suc e))
      go b-is v-is t-is =
          let i = record_bit lead w n (first_at lead w s p + e) in
          let o-is = (peeked_read s b i 4 4 o eo b-is (omega arith) (omega arith)).0 in
          let k-is = (peeked_read s (b + 4) (i + 4) w 9 k ek (ap (λ (j : ℕ). j + 4) b-is) hw (omega arith)).0 in
          let (l-is, l-low) = peeked_read s v (i + 4 + w) 12 12 l el v-is (omega arith) (omega arith) in
          rw (o-is, k-is, level_signed l z l-low ez, l-is, t-is, tab_same 8 _ _ (λ q j. place_counted e (omega arith) i refl q), origin_read lead w s p e (omega (arith, en)) (omega arith), number_read lead w s p e (omega (arith, en)) (omega arith), level_read lead w s p e (omega (arith, en)) (omega arith), en)
          refl

-- the answers
module _ (lead w : ℕ) (s : List ℕ) (station event : ℕ) where
  -- of an accepted recording, with its full cut
  module _ (accepted : checked_of lead w s ≡ Ok tt) (full : Cut) (ef : full ≡ full_of lead w s) where
    pub full_few : full.n ≤ 8
    full_few = omega (arith, (accepted_accepts lead w s accepted).n_most, full_stations lead w s full ef)

    m_is : 1 ≤ station → station ≤ full.n → at full.counts (station - 1) ≡ m_at lead w s (station - 1)
    m_is a b = count_full lead w s full.counts (full_counts lead w s full ef) (station - 1) (omega (arith, full_stations lead w s full ef)) (omega (arith, full_few))

    -- what the code compares with n and m
    abbrev flag : Bool
    flag = leb 1 station && leb station full.n && leb event (at full.counts (station - 1))

    flag_is : flag ≡ is_recorded (recording_of lead w s) station event
    unfolding is_recorded
    flag_is = rw (stations_read lead w s, ← full_stations lead w s full ef) (go (leb 1 station && leb station full.n) refl)
      where
        go : (b : Bool) → (leb 1 station && leb station full.n) ≡ b → (b && leb event (at full.counts (station - 1))) ≡ (b && leb event (at (counts_of (recording_of lead w s)) (station - 1)))
        go true e =
            let (a, d) = and_true (leb 1 station) (leb station full.n) e in
            let one = leb-true 1 station a in
            let most = leb-true station full.n d in
            ap (leb event) (m_is one most ∙ sym (count_read lead w s (station - 1) (omega (arith, full_stations lead w s full ef))))
        go false e = refl

    pub recorded_read : flag ≡ true → (1 ≤ station) × (station - 1 < full.n) × (event ≤ m_at lead w s (station - 1))
    recorded_read h =
        let (b, e) = and_true (leb 1 station && leb station full.n) (leb event (at full.counts (station - 1))) h in
        let (a, d) = and_true (leb 1 station) (leb station full.n) b in
        let one : 1 ≤ station = leb-true 1 station a in
        let most : station ≤ full.n = leb-true station full.n d in
        (one, omega arith, rw (m_is one most) at (leb-true event (at full.counts (station - 1)) e))

    pub lookup_found : flag ≡ true → Ok (found_of (recording_of lead w s) (station - 1) event) ≡ lookup_of lead w s station event
    unfolding lookup_of looked_up
    lookup_found h = rw (accepted, ← flag_is, h) refl

    pub lookup_none : flag ≡ false → Err (whole Reason.NoRecord) ≡ lookup_of lead w s station event
    unfolding lookup_of looked_up
    lookup_none h = rw (accepted, ← flag_is, h) refl

  -- two permitted replies are equal
  pub lookup_unique : (r r' : Result Record Refusal) → r ≡ lookup_of lead w s station event → r' ≡ lookup_of lead w s station event → r ≡ r'
  lookup_unique r r' = replies_equal
