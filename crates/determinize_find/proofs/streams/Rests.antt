-- Leftmost matches from an index on: of a haystack without its first bytes, and from a later index before which no
-- match begins.
-- Main statements: of_rest, shift_leftmost, leftmost_since, skip_leftmost.
-- Used by: the steps of `Pieces`, Begun, InputMatches.
-- Idea: the rest of a haystack is one text, regardless of what was dropped before the byte behind it.
use Rattle.determinize_find.proofs.Common.{arith, between, by_cases, byte_before, cases_lt, drop, drop-drop}
use Rattle.determinize_find.proofs.Common.{each_run_moves, false, from, HasPrefix, is_done, IsLeftmost, IsLeftmostIn}
use Rattle.determinize_find.proofs.Common.{le-ltb, length, length-drop, List, Match, moved, nat_lt, Nfa, None, Option}
use Rattle.determinize_find.proofs.Common.{option_map, refl, since, slice_get, slice_get-drop, slice_get_past, Some}
use Rattle.determinize_find.proofs.Common.{suc, sym, take_rest, Text, text_of, whole, zero, [], ℕ, ◌++◌, ◌+◌, ◌-◌, ◌<◌, ◌∙◌, ◌∷◌, ◌≡◌, ◌≤◌}
use Rattle.determinize_find.specs.Idle.{NothingBefore}
use Rattle.determinize_find.proofs.leftmost.SearchInTurn.{later_run, leftmost_in, leftmost_match, text-since}
use Rattle.determinize_find.proofs.leftmost.TwoSearches.{starts_differ}
use Rattle.determinize_find.specs.Private.BestAt.{IsBestFrom}

pub slice_get-append : (xs ys : List ℕ) (i : ℕ) → i < length xs → slice_get (xs ++ ys) i ≡ slice_get xs i
slice_get-append [] ys i l = absurd (omega arith)
slice_get-append (x ∷ xs) ys zero l = refl
slice_get-append (x ∷ xs) ys (suc i) l = slice_get-append xs ys i (omega arith)

-- the bytes from an index on, behind the byte before it
abbrev pub rest : List ℕ → ℕ → Text
rest xs i = between (byte_before xs i) (drop i xs) None

pub text-whole : (xs : List ℕ) (i : ℕ) → text_of false (from (whole xs) i) ≡ rest xs i
text-whole xs i = rw (take_rest xs i, slice_get_past xs (length xs) (omega arith)) refl

-- the same of a haystack with more bytes, and without its first ones
pub byte_before-append : (xs ys : List ℕ) (i : ℕ) → i ≤ length xs → byte_before (xs ++ ys) i ≡ byte_before xs i
byte_before-append xs ys zero l = refl
byte_before-append xs ys (suc i) l = slice_get-append xs ys i (omega arith)

pub byte_before-drop : (d i : ℕ) (xs : List ℕ) → (i ≡ 0 → d ≡ 0) → byte_before (drop d xs) i ≡ byte_before xs (d + i)
byte_before-drop d zero xs behind = rw (behind refl) refl
byte_before-drop d (suc i) xs behind =
    let sum : d + suc i ≡ suc (d + i) = omega arith in rw (sum, slice_get-drop d xs i)

pub rest-drop : (d i : ℕ) (xs : List ℕ) → (i ≡ 0 → d ≡ 0) → rest (drop d xs) i ≡ rest xs (d + i)
rest-drop d i xs behind = rw (byte_before-drop d i xs behind, drop-drop i d xs)

-- with the usual prefix, the leftmost match of the rest is that from the index on
pub of_rest : (nfa : Nfa) → HasPrefix nfa → (xs : List ℕ) (i : ℕ) → i ≤ length xs → (o : Option Match)
    → IsLeftmost nfa (rest xs i) (length (drop i xs)) o → IsLeftmostIn nfa (from (whole xs) i) (option_map (moved i) o)
of_rest nfa has xs i within o leftmost = leftmost_in nfa (from (whole xs) i) o within
    (rw (starts_differ nfa has, text-whole xs i, ← length-drop i xs) leftmost)

pub moved-moved : (d i : ℕ) (o : Option Match)
    → option_map (moved d) (option_map (moved i) o) ≡ option_map (moved (d + i)) o
moved-moved d i o = grind arith

-- the same match is the leftmost one of a haystack and, as much later, of one with more bytes before it
past-shifted : (size d i : ℕ) → d ≤ size → nat_lt (size - d) i ≡ nat_lt size (d + i)
past-shifted size d i l = grind arith

pub shift_leftmost : (nfa : Nfa) (d i : ℕ) (xs : List ℕ) (answer : Option Match) → (i ≡ 0 → d ≡ 0) → d ≤ length xs
    → IsLeftmostIn nfa (from (whole (drop d xs)) i) answer
    → IsLeftmostIn nfa (from (whole xs) (d + i)) (option_map (moved d) answer)
shift_leftmost nfa d i xs answer behind within h =
    let left : length xs - d - i ≡ length xs - (d + i) = omega arith in
    let text : text_of false (from (whole (drop d xs)) i) ≡ text_of false (from (whole xs) (d + i))
    = text-whole (drop d xs) i ∙ rest-drop d i xs behind ∙ sym (text-whole xs (d + i)) in
    let past : is_done (from (whole (drop d xs)) i) ≡ is_done (from (whole xs) (d + i))
    = rw length-drop (past-shifted (length xs) d i within) in
    record {
      done = λ e. rw (h.done (past ∙ e)) refl;
      found = λ e. let r = h.found (past ∙ e) in
          (r.0, rw (← text, ← left, ← length-drop d xs) r.1, rw r.2 (moved-moved d i r.0));
    }

-- where no match begins before a position, the leftmost match is that of the text from there on
none_since : (nfa : Nfa) (text : Text) (n m : ℕ) → NothingBefore nfa text n → NothingBefore nfa (since text n) m
    → NothingBefore nfa text (n + m)
none_since nfa text n m before later k l = by_cases (cases_lt k n)
    (before k)
    (λ j cs i y acc. later (k - n) (omega arith) cs (i - n) y (later_run nfa text n (k - n) (omega arith) cs i y acc))

pub leftmost_since : (nfa : Nfa) (text : Text) (n last : ℕ) (o : Option Match) → NothingBefore nfa text n
    → IsLeftmost nfa (since text n) last o → IsLeftmost nfa text (n + last) (option_map (moved n) o)
leftmost_since nfa text n last None before h = λ k l. none_since nfa text n (suc last) before
    (λ j low. h j (omega arith)) k (omega arith)
leftmost_since nfa text n last (Some m) before (low, is) =
    let best : IsBestFrom nfa text (n + m.start) is.choices (n + m.end) m.pattern = record {
      accepts = (each_run_moves nfa text n m.start nfa.start_anchored is.choices m.end m.pattern).1 is.accepts;
      preferred = λ ds j y acc. is.preferred ds (j - n) y (later_run nfa text n m.start refl ds j y acc);
    } in
    (omega arith, leftmost_match (moved n m) is.choices (none_since nfa text n m.start before is.leftmost) best)

pub skip_leftmost : (nfa : Nfa) → HasPrefix nfa → (xs : List ℕ) (i n : ℕ) (answer : Option Match) → i + n ≤ length xs
    → NothingBefore nfa (text_of false (from (whole xs) i)) n
    → IsLeftmostIn nfa (from (whole xs) (i + n)) answer → IsLeftmostIn nfa (from (whole xs) i) answer
skip_leftmost nfa has xs i n answer within before h =
    let (o, leftmost, is) = h.found (le-ltb _ _ within) in
    let later = text-since (from (whole xs) i) (from (whole xs) (i + n)) n refl refl refl within in
    let size : n + (length xs - (i + n)) ≡ length xs - i = omega arith in
    let there = rw (starts_differ nfa has, later) at leftmost in
    let here = leftmost_since nfa (text_of false (from (whole xs) i)) n (length xs - (i + n)) o before there in
    rw (is, ← moved-moved i n o) (leftmost_in nfa (from (whole xs) i) (option_map (moved n) o) (omega arith)
    (rw (starts_differ nfa has) (rw size at here)))
