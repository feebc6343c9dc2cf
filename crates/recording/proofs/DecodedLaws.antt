-- Each way out of `decode` where the checks accept is one law: a room is too short for the stamps, or for the levels; both tables are laid; and two permitted
-- replies are equal. Assumes nothing.
use mathlib.Core.Path.{◌≡◌, refl, sym, ap, ◌∙◌}
use mathlib.Core.Bool.{◌&&◌}
use mathlib.Core.List.{List, ◌++◌}
use Prim.Native.Nat.{ℕ, ◌*◌, ◌≤◌, ◌<◌}
use lib.Dec.{leb}
use lib.ListN.{length, take, drop}
use borrow.Author.Tests.{le-leb, lt-leb}
use Rattle.std.specs.Prelude.{Result, Ok, Err}
use Rattle.cuts.specs.Below.{tab}
use Rattle.recording.specs.Form.{n_at, first_at}
use Rattle.recording.specs.Decode.{stamp_cell, level_cell, stamps_fit, stamps_in, levels_fit, levels_in}
use Rattle.recording.specs.Decoded.{RowsLaid, CheckedRows, room_by, Decodes}
use Rattle.recording.specs.declared.DecodeError.{DecodeError}
use Rattle.recording.proofs.DecodeLaws.{stamps_some, levels_some}

module _ (lead w : ℕ) (s a b rows : List ℕ) where
  module _ (h : CheckedRows lead w s (Ok tt) rows) (total : ℕ) (et : total ≡ first_at lead w s (n_at lead s)) where
    r : RowsLaid lead w s rows
    r = h.laid refl

    fit_is : (stamps_fit lead w s (length a) && levels_fit lead w s (length b)) ≡ (leb (8 * total) (length a) && leb total (length b))
    unfolding stamps_fit levels_fit
    fit_is = rw (le-leb (n_at lead s) 8 r.n_most, et) refl

    pub decode_short-stamps : length a < 8 * total → Decodes lead w s a b (Err DecodeError.Short) a b
    decode_short-stamps l = record { answer = rw (← h.reply, fit_is, lt-leb (8 * total) (length a) l) refl; stamps_after = refl; levels_after = refl }

    module _ (la : 8 * total ≤ length a) where
      pub decode_short-levels : length b < total → Decodes lead w s a b (Err DecodeError.Short) a b
      decode_short-levels l = record { answer = rw (← h.reply, fit_is, le-leb (8 * total) (length a) la, lt-leb total (length b) l) refl; stamps_after = refl; levels_after = refl }

      pub decode_done : total ≤ length b → (a' b' : List ℕ) → a' ≡ take (8 * total) rows ++ drop (8 * total) a
          → b' ≡ tab total (level_cell lead w s (n_at lead s)) ++ drop total b → Decodes lead w s a b (Ok tt) a' b'
      decode_done lb a' b' ea eb =
          let t : take (8 * total) rows ≡ tab (8 * total) (stamp_cell lead w s (n_at lead s)) = rw et r.table in
          record {
            answer = rw (← h.reply, fit_is, le-leb (8 * total) (length a) la, le-leb total (length b) lb) refl;
            stamps_after = ea ∙ ap (λ (l : List ℕ). l ++ drop (8 * total) a) t ∙ stamps_some lead w s a r.n_most total et la;
            levels_after = eb ∙ levels_some lead w s b r.n_most total et lb;
          }

-- two permitted replies, with their rooms, are equal
pub decode_unique : (lead w : ℕ) (s a b : List ℕ) (r r' : Result (Unit {0}) DecodeError) (a₁ b₁ a₂ b₂ : List ℕ) → Decodes lead w s a b r a₁ b₁ → Decodes lead w s a b r' a₂ b₂ → (r ≡ r') × (a₁ ≡ a₂) × (b₁ ≡ b₂)
decode_unique lead w s a b r r' a₁ b₁ a₂ b₂ x y = (
  same,
  x.stamps_after ∙ ap (λ (d : Result (Unit {0}) DecodeError). room_by d (stamps_in lead w s a) a) same ∙ sym y.stamps_after,
  x.levels_after ∙ ap (λ (d : Result (Unit {0}) DecodeError). room_by d (levels_in lead w s b) b) same ∙ sym y.levels_after,
)
  where
    same : r ≡ r'
    same = x.answer ∙ sym y.answer
