-- Numbers that are written one after the other.
-- Main statements: write_more, word_more, id_more, list_more, written, whole_of.
-- Used by: `bytes`.
-- Idea: what is written, and then the numbers that are left, are all numbers.
use Rattle.determinize_dense.proofs.Common.{All-from_get_or, All-push, append-nil, append_assoc, AreClasses, arith}
use Rattle.determinize_dense.proofs.Common.{bytes_of_words, Classes, concat, DfaValue, drop, drop_more, flat_map-append}
use Rattle.determinize_dense.proofs.Common.{get_or, IsDfa, length, List, MAX_ID, refl, slice_index, take, take_more, [], ℕ}
use Rattle.determinize_dense.proofs.Common.{◌++◌, ◌+◌, ◌∷◌, ◌<◌, ◌^◌, ◌≡◌, ◌≤◌}
use Rattle.std.specs.Prelude.{All}
use Rattle.std.specs.Int.{to_le_bytes, w32}
use Rattle.std.proofs.lemmas.List.Folds.{concat-append}
use Rattle.determinize_dense.proofs.Offsets.{entries_within}
use Rattle.determinize_dense.specs.Bytes.{IsWhole, stored_of}

-- one number more
pub write_more : (before : List ℕ) {total : List ℕ} (xs : List ℕ) {i x : ℕ} → i < length xs → x ≡ slice_index xs i
    → before ++ bytes_of_words (drop i xs) ≡ total
    → (before ++ to_le_bytes w32 x) ++ bytes_of_words (drop (i + 1) xs) ≡ total
write_more before xs {i = i} h at so_far = rw (append_assoc, at) (rw (drop_more xs i 0 h) at so_far)

module _ (done list : List ℕ) {i x : ℕ} (h : i < length list) (at : x ≡ slice_index list i) where
  taken : done ++ take (i + 1) list ≡ (done ++ take i list) ++ x ∷ []
  taken = rw (take_more list i 0 h, at, append_assoc) refl

  -- one number more of a list, behind others
  pub word_more : (before : List ℕ) {bytes : List ℕ} → bytes ≡ before ++ bytes_of_words (done ++ take i list)
      → bytes ++ to_le_bytes w32 x ≡ before ++ bytes_of_words (done ++ take (i + 1) list)
  word_more before so_far = rw (so_far, taken) (simp (flat_map-append, append_assoc, append-nil) refl)

  pub id_more : (P : ℕ → Type 0) → All P (done ++ take i list) → P x → All P (done ++ take (i + 1) list)
  id_more P so_far here = rw taken (All-push P (done ++ take i list) x so_far here)

-- one list more
pub list_more : (ps : List (List ℕ)) {k : ℕ} {list : List ℕ} → k < length ps → list ≡ get_or ps k []
    → concat (take (k + 1) ps) ≡ concat (take k ps) ++ list
list_more ps {k} h at = rw (take_more ps k [] h, concat-append, append-nil, at) refl

-- six lists of numbers, one after the other
pub written : (a b c d e f : List ℕ) {p q r s t u : List ℕ} → p ≡ bytes_of_words a → q ≡ p ++ bytes_of_words b
    → r ≡ q ++ bytes_of_words c → s ≡ r ++ bytes_of_words d → t ≡ s ++ bytes_of_words e
    → u ≡ t ++ bytes_of_words f → u ≡ bytes_of_words (a ++ (b ++ (c ++ (d ++ (e ++ f)))))
written a b c d e f first second third fourth fifth sixth =
    rw (sixth, fifth, fourth, third, second, first) (simp (flat_map-append, append_assoc) refl)

-- a whole table is stored
pub whole_of : (v : DfaValue) (p : Classes) → IsDfa v → AreClasses p → p.of_bytes ≡ v.table.classes
    → length p.firsts ≡ v.table.class_count → v.nfa.terminator < 256 → length (concat v.table.patterns) < 2 ^ 32
    → All (λ id. id ≤ MAX_ID) (concat v.table.patterns) → IsWhole (stored_of v)
whole_of v p is sound bytes count terminator listed ids = record {
  terminator = terminator;
  few_classes = omega arith;
  few_rows = omega arith;
  few_listed = listed;
  bytes = rw (← bytes) sound.count;
  starts = is.table.starts;
  entries = is.table.size;
  class_within = rw (← bytes, ← count) (All-from_get_or (λ k. k < length p.firsts) p.of_bytes 0
      (λ i h. sound.within i (omega arith)));
  start_within = All-from_get_or (λ r. r < length v.table.patterns) v.table.starts 0
      (λ i h. is.table.first i (omega arith));
  entry_within = entries_within v.table is.table;
  ids = ids;
}
