-- The verdicts read off the tables made of an accepted recording are the recording's. In order: the tables have every row; their lattice agrees with the
-- recording's; what is settled. Assumes nothing.
use mathlib.Core.Path.{◌≡◌, refl, sym, ap, ap₂, ◌∙◌}
use mathlib.Core.Bool.{Bool, true, false, ◌||◌, not}
use mathlib.Core.Option.{none, some}
use mathlib.Core.Option as math
use mathlib.Core.List.{List, ◌++◌}
use Prim.Native.Nat.{ℕ, suc, ◌+◌, ◌*◌, ◌≤◌, ◌<◌}
use native.Mathlib.Omega.{arith}
use lib.ListN.{length, drop, replicate, length-append, length-drop, length-replicate}
use lib.Dec.{ltb}
use borrow.Author.Tests.{le-leb, lt-ltb, le-ltb}
use Rattle.cuts.specs.Below.{every, tab}
use Rattle.cuts.specs.Cut.{at, total, Within}
use Rattle.cuts.specs.Rank.{box}
use Rattle.cuts.specs.Computed.{table, poss_of, def_of}
use Rattle.cut.specs.Value.{counts_of}
use Rattle.cut.specs.declared.Cut.{Cut}
use Rattle.cuts.proofs.BelowLaws.{get_d-tab, every_true, true_every}
use Rattle.cuts.proofs.CutLaws.{within_at}
use Rattle.cut.proofs.ValueRight.{is_full-is}
use Rattle.levels.specs.Level.{level_of}
use Rattle.recording.specs.Recording as recorded
use Rattle.recording.specs.Form.{recording_of, lead8, width8, n_at}
use Rattle.recording.specs.Decode.{starts_of}
use Rattle.std.specs.Prelude.{Option, Some, IsSome}
use Rattle.recording.proofs.DecodeRight.{starts_level, stamps_stamp, levels_level}
use Rattle.condition.specs.Condition.{window_at}
use Rattle.condition.specs.Weigh.{limits_of}
use Rattle.condition.specs.declared.Condition.{Condition}
use Rattle.condition.specs.declared.Limits.{Limits}
use Rattle.marks.specs.Flat.{flat, row_there, filled, settleable, witness_of, avoided, walked, Settles}
use Rattle.marks.specs.declared.Task.{Task}
use Rattle.marks.specs.declared.Verdicts.{Verdicts}
use Rattle.marks.proofs.FlatRight.{Agreeing, table_same, witness_poss, walked_def, laid_in, is_path}
use Rattle.engine.specs.Job.{none_above}
use Rattle.engine.specs.Prepare.{Short, Shifts, rows_to, first_of, needs_to, weights_to, station_need, station_weight}
use Rattle.engine.specs.Computed.{Settled, Computed, lattice_of, given, reply_of, path_then}
use Rattle.engine.proofs.FullLaws.{n_full, n_most, stations_full, short_full, full_full, counts_full, count_full, count_both, first_full, stamps_there, levels_there}
use Rattle.engine.proofs.PrepareLaws.{rows_long, rows_to-more, rows_to-le}
use Rattle.engine.proofs.PrepareRight.{consistent_same, holds_same}

-- a table whose front is written is as long as before
laid_long : (xs d : List ℕ) (k : ℕ) → length xs ≡ k → k ≤ length d → length (xs ++ drop k d) ≡ length d
laid_long xs d k h l = length-append xs (drop k d) ∙ omega (arith, length-drop k d)

module _ (m : Cut) (short : Short m) where
  -- the last row of a station is one of 4,096
  row_below : (p : ℕ) → p < m.n → rows_to m.counts p + at m.counts p < 4096
  row_below p h = omega (arith, short.n_most, rows_to-more m.counts p, rows_to-le m.counts short.few (p + 1))

  rows_fit : rows_to m.counts m.n ≤ 4096
  rows_fit = omega (arith, short.n_most, rows_to-le m.counts short.few m.n)

  needs_long : (stamps d needs : List ℕ) → length d ≡ 32768 → needs ≡ needs_to m.counts stamps m.n ++ drop (8 * rows_to m.counts m.n) d → length needs ≡ 32768
  unfolding needs_to
  needs_long stamps d needs h e = ap length e ∙ laid_long (needs_to m.counts stamps m.n) d _ (rows_long m.counts 8 (λ q. station_need stamps q (first_of m.counts q)) m.n) (omega (arith, rows_fit)) ∙ h

  weights_long : (c : Condition) (starts levels d weights : List ℕ) → length d ≡ 4096 → weights ≡ weights_to m.counts c starts levels m.n ++ drop (1 * rows_to m.counts m.n) d
      → length weights ≡ 4096
  unfolding weights_to
  weights_long c starts levels d weights h e = ap length e ∙ laid_long (weights_to m.counts c starts levels m.n) d _ (rows_long m.counts 1 (λ q. station_weight c (at starts q) levels q (first_of m.counts q)) m.n) (omega (arith, rows_fit)) ∙ h

  -- so tables of these lengths have every row
  rows_there : (bases : List ℕ) → bases ≡ tab 8 (rows_to m.counts) → every m.n (λ p. row_there 32768 4096 (at bases p + at m.counts p)) ≡ true
  unfolding row_there
  rows_there bases e = true_every m.n _ (λ p h. there p h)
    where
      there : (p : ℕ) → p < m.n → row_there 32768 4096 (at bases p + at m.counts p) ≡ true
      there p h =
          let b : at bases p ≡ rows_to m.counts p = ap (λ (l : List ℕ). at l p) e ∙ get_d-tab 8 _ 0 p (omega (arith, short.n_most)) in
          rw (lt-ltb (at bases p + at m.counts p) 4096 (omega (arith, row_below p h)), le-leb (8 * (at bases p + at m.counts p) + 8) 32768 (omega (arith, row_below p h))) refl

-- no station above n is asked
above_unasked : (c : Condition) (n : ℕ) → none_above c n ≡ true → (p : ℕ) → n ≤ p → p < 8 → (window_at c p).asked ≡ false
unfolding none_above
above_unasked c n h p l k = go (window_at c p).asked (every_true 8 _ h p k)
  where
    go : (a : Bool) → (not a || ltb p n) ≡ true → a ≡ false
    go true e = sym e ∙ le-ltb p n l
    go false e = refl

module _ (c : Condition) (s : List ℕ) (task : Task) (stamps levels : List ℕ) (marks path : List ℕ) (z : Settled c s task.full stamps levels (length marks) (length path))
    (starts d d' : List ℕ) (long : length d ≡ 32768) (long' : length d' ≡ 4096)
    (starts-are : starts ≡ starts_of lead8 width8 s)
    (bases-are : task.bases ≡ tab 8 (rows_to task.full.counts))
    (needs-are : task.needs.now ≡ needs_to task.full.counts stamps task.full.n ++ drop (8 * rows_to task.full.counts task.full.n) d)
    (weights-are : task.weights.now ≡ weights_to task.full.counts c starts levels task.full.n ++ drop (1 * rows_to task.full.counts task.full.n) d')
    (shifts : Shifts (limits_of c) (record { least = task.least; most = task.most })) where
  abbrev full : Cut
  full = task.full

  abbrev bases : List ℕ
  bases = task.bases

  abbrev needs : List ℕ
  needs = task.needs.now

  abbrev weights : List ℕ
  weights = task.weights.now

  abbrev l : Limits
  l = record { least = task.least; most = task.most }

  abbrev R : recorded.Recording
  R = recording_of lead8 width8 s

  counts : counts_of full ≡ recorded.counts_of R
  counts = counts_full s full z.accepts z.full_is

  short : Short full
  short = short_full s full z.accepts z.full_is

  n_of : full.n ≡ n_at lead8 s
  n_of = n_full s full z.accepts z.full_is

  agreeing : Agreeing (flat full bases l.least l.most needs weights) (lattice_of c s)
  agreeing = record {
    counts = counts;
    consistent = λ k w. consistent_same full stamps bases needs _ short.n_most bases-are needs-are (recorded.messages R) (recorded.stamps R) (count_both s full z.accepts z.full_is) (stations_full s full z.accepts z.full_is) (λ p q. refl) stamped l.least l.most weights k (rw counts at w);
    holds = λ k w. holds_same full c starts levels bases weights _ short.n_most bases-are weights-are (recorded.levels R) k (fits k w) started levelled unasked l needs shifts;
  }
    where
      fits : (k : List ℕ) → Within (counts_of full) k → (p : ℕ) → p < full.n → at k p ≤ at full.counts p
      fits k w p h = omega (arith, within_at (counts_of full) k w p, ap (λ (x : List ℕ). at x p) counts, count_both s full z.accepts z.full_is p h)

      stamped : (p e q : ℕ) → p < full.n → e < at full.counts p → q < full.n → at stamps (8 * (first_of full.counts p + e) + q) ≡ recorded.stamps R p (suc e) q
      stamped p e q h k g =
          rw (first_full s full z.accepts z.full_is p (omega arith), z.stamps_are)
          (stamps_stamp lead8 width8 s p e (rw n_of at h) (rw (count_full s full z.accepts z.full_is p h) at k) (replicate 32704 0) (rw (length-replicate {A = ℕ} 32704 0) (stamps_there s full z.accepts z.full_is)) q (omega (arith, short.n_most)))

      levelled : (p e : ℕ) → p < full.n → e < at full.counts p → level_of (at levels (first_of full.counts p + e)) ≡ recorded.levels R p (suc e)
      levelled p e h k =
          rw (first_full s full z.accepts z.full_is p (omega arith), z.levels_are)
          (levels_level lead8 width8 s p e (rw n_of at h) (rw (count_full s full z.accepts z.full_is p h) at k) (replicate 4088 0) (rw (length-replicate {A = ℕ} 4088 0) (levels_there s full z.accepts z.full_is)))

      started : (p : ℕ) → p < full.n → level_of (at starts p) ≡ recorded.levels R p 0
      started p h = rw starts-are (starts_level lead8 width8 s (n_most s full z.accepts z.full_is) p (rw n_of at h))

      unasked : (p : ℕ) → full.n ≤ p → p < 8 → (window_at c p).asked ≡ false
      unasked = above_unasked c full.n (rw (stations_full s full z.accepts z.full_is) at z.asked)

  ready : settleable full bases (length needs) (length weights) (length marks) (length path) ≡ true
  unfolding settleable
  ready =
      rw ((is_full-is full).1 (full_full s full z.accepts z.full_is), counts, le-leb _ 65536 z.limit, le-leb _ (length marks) z.marks_fit, le-leb _ (length path) z.path_fit, needs_long full short stamps d needs long needs-are, weights_long full short c starts levels d' weights long' weights-are)
      (rows_there full short bases bases-are)

  -- the marks afterwards
  abbrev after : List ℕ
  after = filled full bases l.least l.most needs weights marks

  after_is : after ≡ table (lattice_of c s) ++ drop (box (recorded.counts_of R)) marks
  unfolding filled
  after_is = ap₂ (λ (t k : List ℕ). t ++ drop (box k) marks) (table_same _ (lattice_of c s) agreeing) counts

  found : witness_of full after ≡ poss_of (lattice_of c s)
  found = witness_poss full (lattice_of c s) (sym counts) after _ after_is

  way : (avoided full after ≡ is_path (def_of (lattice_of c s))) × (walked full after path ≡ laid_in (total (counts_of full)) (def_of (lattice_of c s)) path)
  way = walked_def full (lattice_of c s) (sym counts) after _ after_is path

  -- a path that is there is evidence
  path_given : (def : math.Option (List ℕ)) → is_path def ≡ given def
  path_given none = refl
  path_given (some d) = refl

  laid : (def : math.Option (List ℕ)) → laid_in (total (counts_of full)) def path ≡ path_then (total (recorded.counts_of R)) def path
  laid none = refl
  laid (some d) = rw counts refl

  settled : (r : Option Verdicts) (marks' path' : List ℕ) → Settles task marks path r marks' path' → r ≡ Some (reply_of (length (recorded.counts_of R)) (poss_of (lattice_of c s)) (def_of (lattice_of c s)))
  settled r marks' path' t = rw (ready, found, way.0, path_given (def_of (lattice_of c s)), ← stations_full s full z.accepts z.full_is) at t.reply

  -- there are verdicts
  pub there : (r : Option Verdicts) (marks' path' : List ℕ) → Settles task marks path r marks' path' → IsSome r
  there r marks' path' t = rw (settled r marks' path' t) refl

  pub computed : (v : Verdicts) (marks' path' : List ℕ) → Settles task marks path (Some v) marks' path' → Computed c s marks path v marks' path'
  computed v marks' path' t = record {
    reply = let e = settled (Some v) marks' path' t in cc;
    marks_after = rw ready at t.marks_after ∙ after_is;
    path_after = rw ready at t.path_after ∙ way.1 ∙ laid (def_of (lattice_of c s));
  }
