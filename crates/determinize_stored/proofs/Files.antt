-- A file that is read is that of what was read, and that of what was stored is read as it.
-- Main statements: whole_in, file_in, same_in, range_in, read_words, file_bytes, not_listed.
-- Used by: `format` and `stored`.
-- Idea: the head says how long each part is, so the numbers determine the parts.
use Rattle.determinize_core.proofs.Common.{[], ap, arith, Bool, cond, false, length, List, refl, subst, sym, true}
use Rattle.determinize_below.specs.declared.search.MatchKind.{MatchKind}
use Rattle.determinize_below.specs.declared.search.MatchKind.TheVariants as kinds
use Rattle.determinize_core.proofs.Common.{ℕ, ◌*◌, ◌++◌, ◌+◌, ◌<◌, ◌∙◌, ◌≡◌, ◌≤◌}
use Rattle.std.specs.Prelude.{All, drop, ◌^◌}
use Rattle.std.specs.List.{concat}
use Rattle.std.proofs.lemmas.List.Elements.{All-append, All-from_recursion, All-weaker}
use Rattle.determinize_below.specs.declared.primitives.TheConstants.{MAX_ID}
use Rattle.determinize_dense.specs.Bytes.{ends_from, head_of, IsWhole, kind_number, Stored, words_of}
use Rattle.determinize_dense.specs.Table.{Table}
use Rattle.determinize_dense.specs.declared.bytes.TheConstants.{MAGIC, VERSION}
use Rattle.determinize_dense.specs.Bytes.{bytes_of_words, file_of}
use Rattle.determinize_stored.proofs.Encoded.{bytes-length, words-again, words-encoded}
use Rattle.determinize_stored.specs.Private.Words.{words_in}
use Rattle.std.specs.Prelude.{get_or, ◌%◌}
use Rattle.determinize_stored.proofs.Heads.{heads_same, IsHeadOf}
use Rattle.determinize_stored.proofs.Lists.{append_parts, concat_of-lists, ends-small, ends_from-length, ends_from-whole}
use Rattle.determinize_stored.proofs.Lists.{end-below, ends_of-lists, list-first, lists_from-length, lists_of-ends}
use Rattle.determinize_stored.proofs.Lists.{slice-length}
use Rattle.determinize_stored.proofs.Numbers.{words_most, words_room}
use Rattle.determinize_stored.specs.Reading.{HasDeadRow}
use Rattle.std.proofs.Math.Nat.{mul-le-mul_right}
use Rattle.determinize_dense.specs.Table.{patterns_at}
use Rattle.determinize_core.proofs.Common.{slice_index}
use Rattle.std.proofs.lemmas.List.{get_or_past}
use Rattle.determinize_stored.specs.Private.Parts.{AreEnds, HasHead, HasSizes, head_words, IsInRange, lists_from}
use Rattle.determinize_stored.specs.Private.Parts.{parts_words, stored_in}
use Rattle.determinize_stored.specs.declared.format.Head.{Head}
use Rattle.determinize_stored.specs.declared.format.Parts.{Parts}

module _ (h : Head) (p : Parts) (sizes : HasSizes h p) (range : IsInRange h p) where
  lists : concat (lists_from 0 p.ends p.patterns) ≡ p.patterns
  lists = concat_of-lists 0 p.ends p.patterns (length p.patterns) range.ends refl

  rows : length (lists_from 0 p.ends p.patterns) ≡ h.rows
  rows = lists_from-length 0 p.ends p.patterns ∙ sizes.ends

  pub whole_in : (ws : List ℕ) → HasHead ws h → IsWhole (stored_in h p)
  whole_in ws has = record {
    terminator = has.terminator;
    few_classes = has.few_classes;
    few_rows = subst (λ n. n < 2 ^ 32) (sym rows) has.few_rows;
    few_listed = subst (λ l. length l < 2 ^ 32) (sym lists) range.few;
    bytes = sizes.classes;
    starts = sizes.starts;
    entries = sizes.next ∙ ap (λ r. r * (h.class_count + 1)) (sym rows);
    class_within = range.classes;
    start_within = subst (λ n. All (λ r. r < n) p.starts) (sym rows) range.starts;
    entry_within = subst (λ n. All (λ r. r < n) p.next) (sym rows) range.next;
    ids = subst (λ l. All (λ n. n ≤ MAX_ID) l) (sym lists)
        (All-weaker (λ n. n < MAX_ID + 1) (λ n. n ≤ MAX_ID) (λ n less. omega (arith, less)) p.patterns range.patterns);
  }

  pub file_in : (ws : List ℕ) → HasHead ws h → drop 7 ws ≡ parts_words p → ws ≡ words_of (stored_in h p)
  file_in ws has parts =
      let ends = ends_of-lists 0 p.ends p.patterns (length p.patterns) range.ends (omega arith) in
      has.words ∙ ap (λ l. head_words h ++ l) (parts
      ∙ ap (λ l. p.classes ++ (p.starts ++ (p.next ++ (l ++ p.patterns)))) (sym ends)
      ∙ ap (λ l. p.classes ++ (p.starts ++ (p.next ++ (ends_from 0 (lists_from 0 p.ends p.patterns) ++ l))))
      (sym lists))
      ∙ rw rows refl

-- equal parts are one table, and one value
table_as : {a b e f i j : List ℕ} {m n : ℕ} {v w : List (List ℕ)} → a ≡ b → m ≡ n → e ≡ f → i ≡ j → v ≡ w
    → (let x : Table = record { classes = a; class_count = m; next = e; starts = i; patterns = v } in x)
    ≡ (let y : Table = record { classes = b; class_count = n; next = f; starts = j; patterns = w } in y)
table_as p q r s t = rw (p, q, r, s, t) refl

stored_as : {k l : MatchKind} {a b : Bool} {m n : ℕ} {d e : Table} → k ≡ l → a ≡ b → m ≡ n → d ≡ e
    → (let x : Stored = record { kind = k; reverse = a; terminator = m; table = d } in x)
    ≡ (let y : Stored = record { kind = l; reverse = b; terminator = n; table = e } in y)
stored_as p q r s = rw (p, q, r, s) refl

module _ (h : Head) (p : Parts) (s : Stored) (ws : List ℕ) (has : HasHead ws h) (parts : drop 7 ws ≡ parts_words p)
    (sizes : HasSizes h p) (whole : IsWhole s) (same : ws ≡ words_of s) where
  head : IsHeadOf h s
  head = heads_same ws h s has same

  abbrev t : Table
  t = s.table

  behind : parts_words p ≡ t.classes ++ (t.starts ++ (t.next ++ (ends_from 0 t.patterns ++ concat t.patterns)))
  behind = sym parts ∙ ap (λ l. drop 7 l) same

  one : (p.classes ≡ t.classes)
      × (p.starts ++ (p.next ++ (p.ends ++ p.patterns))
      ≡ t.starts ++ (t.next ++ (ends_from 0 t.patterns ++ concat t.patterns)))
  one = append_parts p.classes _ t.classes _ (sizes.classes ∙ sym whole.bytes) behind

  two : (p.starts ≡ t.starts)
      × (p.next ++ (p.ends ++ p.patterns) ≡ t.next ++ (ends_from 0 t.patterns ++ concat t.patterns))
  two = append_parts p.starts _ t.starts _ (sizes.starts ∙ sym whole.starts) one.1

  size : length p.next ≡ length t.next
  size = sizes.next ∙ ap (λ r. r * (h.class_count + 1)) head.rows
      ∙ ap (λ n. length t.patterns * (n + 1)) head.classes ∙ sym whole.entries

  three : (p.next ≡ t.next) × (p.ends ++ p.patterns ≡ ends_from 0 t.patterns ++ concat t.patterns)
  three = append_parts p.next _ t.next _ size two.1

  four : (p.ends ≡ ends_from 0 t.patterns) × (p.patterns ≡ concat t.patterns)
  four = append_parts p.ends _ (ends_from 0 t.patterns) _
      (sizes.ends ∙ head.rows ∙ sym (ends_from-length 0 t.patterns)) three.1

  lists_same : lists_from 0 p.ends p.patterns ≡ t.patterns
  lists_same = ap (λ l. lists_from 0 l p.patterns) four.0 ∙ ap (λ l. lists_from 0 (ends_from 0 t.patterns) l) four.1
      ∙ lists_of-ends [] t.patterns 0 refl

  pub same_in : stored_in h p ≡ s
  same_in =
      let kind = head.kind in let reverse = head.reverse in let terminator = head.terminator in
      let classes = head.classes in let a = one.0 in let b = two.0 in let c = three.0 in let lists = lists_same in
      stored_as kind reverse terminator (table_as a classes c b lists)

  pub range_in : IsInRange h p
  range_in = record {
    classes = subst (λ l. All (λ k. k < h.class_count) l) (sym one.0)
        (subst (λ n. All (λ k. k < n) t.classes) (sym head.classes) whole.class_within);
    starts = subst (λ l. All (λ r. r < h.rows) l) (sym two.0)
        (subst (λ n. All (λ r. r < n) t.starts) (sym head.rows) whole.start_within);
    next = subst (λ l. All (λ r. r < h.rows) l) (sym three.0)
        (subst (λ n. All (λ r. r < n) t.next) (sym head.rows) whole.entry_within);
    ends = subst (λ l. AreEnds 0 l (length p.patterns)) (sym four.0)
        (subst (λ l. AreEnds 0 (ends_from 0 t.patterns) (length l)) (sym four.1) (ends_from-whole t.patterns));
    few = subst (λ l. length l < 2 ^ 32) (sym four.1) whole.few_listed;
    patterns = subst (λ l. All (λ n. n < MAX_ID + 1) l) (sym four.1)
        (All-weaker (λ n. n ≤ MAX_ID) (λ n. n < MAX_ID + 1) (λ n most. omega (arith, most)) (concat t.patterns)
        whole.ids);
  }

kind_small : (kind : MatchKind) → kind_number kind < 2 ^ 32
kind_small kinds.All = omega arith
kind_small kinds.LeftmostFirst = omega arith

flag_small : (flag : Bool) → cond flag 1 0 < 2 ^ 32
flag_small true = omega arith
flag_small false = omega arith

head_small : (s : Stored) → IsWhole s → All (λ w. w < 2 ^ 32) (head_of s)
head_small s whole =
    let magic : MAGIC < 2 ^ 32 = omega arith in
    let version : VERSION < 2 ^ 32 = omega arith in
    let byte = whole.terminator in
    let terminator : s.terminator < 2 ^ 32 = omega (arith, byte) in
    let few = whole.few_classes in
    let classes : s.table.class_count < 2 ^ 32 = omega (arith, few) in
    All-from_recursion (λ w. w < 2 ^ 32) (head_of s)
    (magic, (version, (kind_small s.kind, (flag_small s.reverse, (terminator, (classes, (whole.few_rows, tt)))))))

-- each number of a file is below 2^32
pub words_small : (s : Stored) → IsWhole s → All (λ w. w < 2 ^ 32) (words_of s)
words_small s whole =
    let small : ℕ → Type 0 = λ w. w < 2 ^ 32 in
    let t = s.table in
    let rows = whole.few_rows in
    let classes = whole.few_classes in
    let lists = All-append small (ends_from 0 t.patterns) (concat t.patterns)
    (ends-small (2 ^ 32) 0 (ends_from 0 t.patterns) (length (concat t.patterns)) (ends_from-whole t.patterns)
    whole.few_listed)
    (All-weaker (λ n. n ≤ MAX_ID) small (λ n most. omega (arith, most)) (concat t.patterns) whole.ids) in
    let next = All-append small t.next _
    (All-weaker (λ r. r < length t.patterns) small (λ n less. omega (arith, less, rows)) t.next
    whole.entry_within) lists in
    let starts = All-append small t.starts _
    (All-weaker (λ r. r < length t.patterns) small (λ n less. omega (arith, less, rows)) t.starts
    whole.start_within) next in
    let bytes = All-append small t.classes _
    (All-weaker (λ k. k < t.class_count) small (λ n less. omega (arith, less, classes)) t.classes
    whole.class_within) starts in
    All-append small (head_of s) _ (head_small s whole) bytes

-- the bytes of a file are its numbers
pub read_words : (bs : List ℕ) (s : Stored) → IsWhole s → bs ≡ file_of s → words_in bs ≡ words_of s
read_words bs s whole same = ap (λ l. words_in l) same ∙ words-again (words_of s) (words_small s whole)

pub file_four : (bs : List ℕ) (s : Stored) → bs ≡ file_of s → length bs % 4 ≡ 0
file_four bs s same = let n = ap (λ l. length l) same ∙ bytes-length (words_of s) in omega (arith, n)

pub file_bytes : (bs ws : List ℕ) (s : Stored) → ((i : ℕ) → get_or bs i 0 < 256) → length bs % 4 ≡ 0 → ws ≡ words_in bs
    → ws ≡ words_of s → bs ≡ file_of s
file_bytes bs ws s fit four same is =
    let room = words_room bs in let most = words_most bs in
    words-encoded bs fit (omega (arith, four, room, most)) ∙ ap (λ l. bytes_of_words l) (sym same ∙ is)

-- a row that a start is
pub some_row : (h : Head) (p : Parts) → HasSizes h p → IsInRange h p → 0 < h.rows
some_row h p sizes range =
    let starts = sizes.starts in
    let first = range.starts 0 0 (omega (arith, starts)) in omega (arith, first)

pub first_row_room : (h : Head) (p : Parts) → HasSizes h p → IsInRange h p → h.class_count + 1 ≤ length p.next
first_row_room h p sizes range =
    let some = some_row h p sizes range in
    let size = sizes.next in
    let least : 1 * (h.class_count + 1) ≤ h.rows * (h.class_count + 1) = mul-le-mul_right (h.class_count + 1) some in
    omega (arith, size, least)

-- what is stored, if it is in range, is whole
pub whole_of : (ws : List ℕ) (h : Head) (p : Parts) → HasHead ws h → HasSizes h p → IsInRange h p
    → IsWhole (stored_in h p)
whole_of ws h p has sizes range = whole_in h p sizes range ws has

pub rows_are : (h : Head) (p : Parts) → HasSizes h p → h.rows ≡ length (stored_in h p).table.patterns
rows_are h p sizes = sym (lists_from-length 0 p.ends p.patterns ∙ sizes.ends)

-- row 0 is dead exactly if it lists nothing, and no entry of it is above 0
pub not_listed : (h : Head) (p : Parts) → HasSizes h p → IsInRange h p → (slice_index p.ends 0 ≡ 0 → ⊥)
    → HasDeadRow (stored_in h p).table → ⊥
not_listed h p sizes range some stop =
    let rows = some_row h p sizes range in
    let ends = sizes.ends in
    let first = list-first 0 p.ends p.patterns (omega (arith, rows, ends)) in
    let below = end-below 0 p.ends (length p.patterns) 0 range.ends (omega (arith, rows, ends)) in
    let count = slice-length p.patterns 0 (slice_index p.ends 0) below in
    let none = ap (λ l. length l) (sym first ∙ stop.lists) in
    some (omega (arith, count, none))

pub patterns-past : (h : Head) (p : Parts) → HasSizes h p → (row : ℕ) → h.rows ≤ row
    → patterns_at (stored_in h p).table row ≡ []
patterns-past h p sizes row past =
    let count = rows_are h p sizes in get_or_past (lists_from 0 p.ends p.patterns) row [] (omega (arith, count, past))
