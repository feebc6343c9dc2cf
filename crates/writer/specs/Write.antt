-- The writer: document 01, "The writer takes n, counts (a byte each), start levels and lists of records: 2, 1, 3, 14 for start levels in station order,
-- then per record 5, 6, 14, 7, then 13". "The written recording fills the first bytes of its room; the others are unchanged".
-- In order: what was handed in, as a recording; the tests; what bytes pack a recording; the reply and the room afterwards.
use Rattle.std.specs.Prelude.{◌≡◌, Bool, ◌&&◌, List, [], ◌∷◌, ◌++◌, ℕ, suc, ◌+◌, ◌*◌, ◌<◌, length, get_or, drop, ℤ, pos, leb, Result, Ok, Err}
use Rattle.levels.specs.Level.{is_level}
use Rattle.cuts.specs.Below.{every, sum_to, tab}
use Rattle.cuts.specs.Cut.{at}
use Rattle.recording.specs.Recording.{Event, Recording, messages, stamps, levels}
use Rattle.recording.specs.Form.{bytes_for, record_bit, recording_of, needed, padding}
use Rattle.recording.specs.Check.{Test, test, fault_of, origin_ok, number_ok, stamp_ok, scan_records}
use Rattle.refusal.specs.Refusal.{Checked, at_whole, or_else}
use Rattle.refusal.specs.declared.Reason.{Reason}
use Rattle.refusal.specs.declared.Refusal.{Refusal}
use Rattle.writer.specs.declared.Given.{Given as Handed}

-- n, and the lists: stations in their order, records in file order, n counts to a record
pub record Given : Type 0 where
  pub n : ℕ
  pub counts : List ℕ
  pub starts : List ℤ
  pub origins : List ℕ
  pub numbers : List ℕ
  pub levels : List ℤ
  pub stamps : List ℕ

-- the same of the code's struct
abbrev pub handed : Handed → Given
handed x = record { n = x.n; counts = x.counts.now; starts = x.starts.now; origins = x.origins.now; numbers = x.numbers.now; levels = x.levels.now; stamps = x.stamps.now }

module _ (g : Given) where
  -- the records before those of the station at place p; at n this is T
  unfoldable pub first_given : ℕ → ℕ
  first_given p = sum_to p (at g.counts)

  abbrev pub given : ℕ → Event
  given r = record { origin = at g.origins r; number = at g.numbers r; level = get_or g.levels r (pos 0); stamp = tab g.n (λ q. at g.stamps (r * g.n + q)) }

  -- the recording that was handed in
  unfoldable pub recording_given : Recording
  recording_given = record {
    starts = tab g.n (λ p. get_or g.starts p (pos 0));
    events = tab g.n (λ p. tab (at g.counts p) (λ e. given (first_given p + e)));
  }

  -- what each list needs to have: n of the stations', T of the records', n times T of the counts
  unfoldable pub long_enough : Bool
  long_enough =
      let t = first_given g.n in
      leb g.n (length g.counts) && leb g.n (length g.starts) && leb t (length g.origins) && leb t (length g.numbers)
      && leb t (length g.levels) && leb (t * g.n) (length g.stamps)

  unfoldable pub not_longer : Bool
  not_longer =
      let t = first_given g.n in
      leb (length g.counts) g.n && leb (length g.starts) g.n && leb (length g.origins) t && leb (length g.numbers) t
      && leb (length g.levels) t && leb (length g.stamps) (t * g.n)

  -- the tests of the lists' lengths
  abbrev pub lengths_tests : List Test
  lengths_tests = test Reason.TooShort long_enough ∷ test Reason.TooLong not_longer ∷ []

  -- the tests before the records
  abbrev pub given_tests : List Test
  given_tests =
      test Reason.Stations (leb 1 g.n && leb g.n 8)
      ∷ test Reason.TooShort long_enough
      ∷ test Reason.TooLong not_longer
      ∷ test Reason.Level (every g.n (λ p. is_level (get_or g.starts p (pos 0))))
      ∷ []

-- the tests of event e + 1 of the station at place p, for the writer
abbrev pub writer_tests : Recording → ℕ → ℕ → List Test
writer_tests R p e =
    test Reason.Origin (origin_ok (messages R) p ((messages R).origin p (suc e)))
    ∷ test Reason.Number (number_ok (messages R) ((messages R).origin p (suc e)) ((messages R).number p (suc e)))
    ∷ test Reason.Level (is_level (levels R p (suc e)))
    ∷ test Reason.Stamp (stamp_ok (messages R) (stamps R) p e)
    ∷ []

module _ (lead w : ℕ) where
  -- the bytes that the recording handed in needs
  unfoldable pub needed_given : Given → ℕ
  needed_given g = bytes_for (record_bit lead w g.n (first_given g g.n))

  -- all the checks, in the written order, for a room of so many bytes
  unfoldable pub checked_given : Given → ℕ → Checked
  checked_given g room =
      or_else (at_whole (fault_of (given_tests g)))
      (or_else (scan_records (messages (recording_given g)) (writer_tests (recording_given g)))
      (at_whole (fault_of (test Reason.Room (leb (needed_given g) room) ∷ []))))

  -- s packs the recording R: bytes, just as many as needed, whose fields are R's and whose padding is zero
  pub record Packs (R : Recording) (s : List ℕ) : Type 0 where
    pub bytes : (i : ℕ) → get_or s i 0 < 256
    pub fields : recording_of lead w s ≡ R
    pub just_needed : length s ≡ needed lead w s
    pub padded : padding lead w s ≡ 0

  -- the room before and after, and the reply to it
  pub data Wrote (g : Given) (before after : List ℕ) : Result ℕ Refusal → Type 0 where
    -- "No lent buffer changes"
    refused : {x : Refusal} → checked_given g (length before) ≡ Err x → after ≡ before → Wrote g before after (Err x)
    done : {s : List ℕ} → checked_given g (length before) ≡ Ok tt → Packs (recording_given g) s → after ≡ s ++ drop (length s) before
        → Wrote g before after (Ok (length s))
