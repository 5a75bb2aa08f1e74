-- The numbers at the beginning of a file.
-- Main statements: same_kind, same_flag, head_at, heads_same.
-- Used by: `format`, and the lemmas on whole files.
-- Idea: the first seven numbers are those of the head, and each says one fact.
use Rattle.determinize_core.proofs.Common.{ap, arith, Bool, cond, false, length, length-append, List, refl, slice_index, sym, true}
use Rattle.determinize_core.proofs.Common.{ℕ, ◌*◌, ◌++◌, ◌+◌, ◌∙◌, ◌≡◌, ◌≤◌}
use Rattle.determinize_below.specs.declared.search.MatchKind.{MatchKind}
use Rattle.determinize_below.specs.declared.search.MatchKind.TheVariants as kinds
use Rattle.determinize_dense.specs.Bytes.{ends_from, IsWhole, kind_number, Stored, words_of}
use Rattle.std.specs.List.{concat}
use Rattle.determinize_dense.specs.declared.bytes.TheConstants.{MAGIC, VERSION}
use Rattle.determinize_stored.proofs.Lists.{ends_from-length}
use Rattle.determinize_stored.specs.Private.Parts.{HasHead}
use Rattle.determinize_stored.specs.declared.format.Head.{Head}

pub same_kind : (k l : MatchKind) → kind_number k ≡ kind_number l → k ≡ l
same_kind kinds.All kinds.All e = refl
same_kind kinds.All kinds.LeftmostFirst e = absurd (let no : ⊥ = omega (arith, e) in no)
same_kind kinds.LeftmostFirst kinds.All e = absurd (let no : ⊥ = omega (arith, e) in no)
same_kind kinds.LeftmostFirst kinds.LeftmostFirst e = refl

pub same_flag : (a b : Bool) → ◌≡◌ {A = ℕ} (cond a 1 0) (cond b 1 0) → a ≡ b
same_flag true true e = refl
same_flag true false e = absurd (let no : ⊥ = omega (arith, e) in no)
same_flag false true e = absurd (let no : ⊥ = omega (arith, e) in no)
same_flag false false e = refl

-- what the first numbers of a file are
pub record HeadAt (ws : List ℕ) (s : Stored) : Type 0 where
  pub magic : slice_index ws 0 ≡ MAGIC
  pub version : slice_index ws 1 ≡ VERSION
  pub kind : slice_index ws 2 ≡ kind_number s.kind
  pub reverse : slice_index ws 3 ≡ cond s.reverse 1 0
  pub terminator : slice_index ws 4 ≡ s.terminator
  pub classes : slice_index ws 5 ≡ s.table.class_count
  pub rows : slice_index ws 6 ≡ length s.table.patterns
  pub long : 7 ≤ length ws

pub head_at : (ws : List ℕ) (s : Stored) → ws ≡ words_of s → HeadAt ws s
head_at ws s e = record {
  magic = ap (λ l. slice_index l 0) e;
  version = ap (λ l. slice_index l 1) e;
  kind = ap (λ l. slice_index l 2) e;
  reverse = ap (λ l. slice_index l 3) e;
  terminator = ap (λ l. slice_index l 4) e;
  classes = ap (λ l. slice_index l 5) e;
  rows = ap (λ l. slice_index l 6) e;
  long = let n = ap (λ l. length l) e in omega (arith, n);
}

-- a head, and what is stored there
pub record IsHeadOf (h : Head) (s : Stored) : Type 0 where
  pub kind : h.match_kind ≡ s.kind
  pub reverse : h.is_reverse ≡ s.reverse
  pub terminator : h.line_terminator ≡ s.terminator
  pub classes : h.class_count ≡ s.table.class_count
  pub rows : h.rows ≡ length s.table.patterns

pub heads_same : (ws : List ℕ) (h : Head) (s : Stored) → HasHead ws h → ws ≡ words_of s → IsHeadOf h s
heads_same ws h s has e =
    let at = head_at ws s e in
    let here = has.words in
    record {
      kind = same_kind h.match_kind s.kind (sym (ap (λ l. slice_index l 2) here) ∙ at.kind);
      reverse = same_flag h.is_reverse s.reverse (sym (ap (λ l. slice_index l 3) here) ∙ at.reverse);
      terminator = sym (ap (λ l. slice_index l 4) here) ∙ at.terminator;
      classes = sym (ap (λ l. slice_index l 5) here) ∙ at.classes;
      rows = sym (ap (λ l. slice_index l 6) here) ∙ at.rows;
    }

-- a file is as long as its head says, or longer
pub long_enough : (ws : List ℕ) (h : Head) (s : Stored) → HasHead ws h → IsWhole s → ws ≡ words_of s
    → 275 + h.rows * (h.class_count + 1) + h.rows ≤ length ws
long_enough ws h s has whole e =
    let is = heads_same ws h s has e in
    let t = s.table in
    let all : length ws
    ≡ 7 + length (t.classes ++ (t.starts ++ (t.next ++ (ends_from 0 t.patterns ++ concat t.patterns)))) =
    ap (λ l. length l) e ∙ omega arith in
    let one = length-append t.classes (t.starts ++ (t.next ++ (ends_from 0 t.patterns ++ concat t.patterns))) in
    let two = length-append t.starts (t.next ++ (ends_from 0 t.patterns ++ concat t.patterns)) in
    let three = length-append t.next (ends_from 0 t.patterns ++ concat t.patterns) in
    let four = length-append (ends_from 0 t.patterns) (concat t.patterns) in
    let ends = ends_from-length 0 t.patterns in
    let bytes = whole.bytes in let starts = whole.starts in
    let size : length t.next ≡ h.rows * (h.class_count + 1) =
    whole.entries ∙ sym (ap (λ r. r * (t.class_count + 1)) is.rows) ∙ sym (ap (λ n. h.rows * (n + 1)) is.classes) in
    let rows = is.rows in
    omega (arith, all, one, two, three, four, ends, bytes, starts, size, rows)
