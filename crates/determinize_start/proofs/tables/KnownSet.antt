-- The members of the set of the assertions that the look-behind satisfies.
-- Main statements: has-known_set, known-agree, known-within.
-- Used by: StartKinds, StepTables.
-- Idea: the set is built class by class, and each class has few members.
use Rattle.determinize_start.proofs.Common.{arith, behind_test, Bool, false, Look, refl, Start, StartCRLF, StartLF, true, WordStartHalfAscii, WordStartHalfUnicode, ℕ, ◌&&◌, ◌||◌, ◌≡◌, or-false, has_haystack, has_line, has_crlf, has_word, has-insert, has-empty, sym, ◌∙◌}
use Rattle.determinize_below.specs.Look.{has}
use Rattle.determinize_below.proofs.looks.LookSets.{same, index_of}
use Rattle.determinize_below.proofs.looks.CommonLooks.{meets-from}
use Rattle.determinize_start.specs.LookTables.{insert_where, known_set}

-- a test under a class that is present
pub under : (c a : Bool) → c ≡ true → (c && a) ≡ a
under c a h = grind arith

-- an insertion under a test
pub has-insert_where : (s : ℕ) (test : Bool) (l k : Look)
    → has (insert_where s test l) k ≡ ((same l k && test) || has s k)
unfolding insert_where
has-insert_where s true l k = grind (arith, has-insert s l k)
has-insert_where s false l k = grind arith

-- the classes of a member
pub word_class : (any : ℕ) (l : Look) → has 0x3FFC0 l ≡ true → has any l ≡ true → has_word any ≡ true
word_class any l k h = meets-from any 0x3FFC0 l h k

pub line_class : (any : ℕ) (l : Look) → has 0x3C l ≡ true → has any l ≡ true → has_line any ≡ true
line_class any l k h = meets-from any 0x3C l h k

pub crlf_class : (any : ℕ) (l : Look) → has 0x30 l ≡ true → has any l ≡ true → has_crlf any ≡ true
crlf_class any l k h = meets-from any 0x30 l h k

pub haystack_class : (any : ℕ) (l : Look) → has 0x3 l ≡ true → has any l ≡ true → has_haystack any ≡ true
haystack_class any l k h = meets-from any 0x3 l h k

-- the members, the last inserted first
known_each : (start line crlf word : Bool) (l : Look)
    → ((same Start l && start) ||
    ((same StartCRLF l && crlf) ||
    ((same StartLF l && line) ||
    ((same WordStartHalfUnicode l && word) || ((same WordStartHalfAscii l && word) || false)))))
    ≡ behind_test start line crlf word l
unfolding same index_of
known_each a b c d Start = or-false a
known_each a b c d l = grind arith

-- the members of such a set
pub has-known_set : (start line crlf word : Bool) (l : Look)
    → has (known_set start line crlf word) l ≡ behind_test start line crlf word l
unfolding known_set
has-known_set start line crlf word l = simp (has-insert_where, has-empty) (known_each start line crlf word l)

-- such a set agrees with a table on the assertions of an NFA if their tests agree under its classes
pub known-agree : (any : ℕ) (start line crlf word start' line' crlf' word' : Bool) (l : Look) → has any l ≡ true
    → (has_haystack any ≡ true → start ≡ start')
    → (has_line any ≡ true → line ≡ line')
    → (has_line any ≡ true → has_crlf any ≡ true → crlf ≡ crlf')
    → (has_word any ≡ true → word ≡ word')
    → has (known_set start line crlf word) l ≡ behind_test start' line' crlf' word' l
unfolding has
known-agree any a b c d a' b' c' d' Start h i j k m =
    has-known_set a b c d Start ∙ i (haystack_class any Start refl h)
known-agree any a b c d a' b' c' d' l h i j k m =
    has-known_set a b c d l
    ∙ grind (arith, i, j, k, m, word_class any l, line_class any l, crlf_class any l, haystack_class any l)

-- such a set is within a table if its tests imply the table's
pub known-within : (start line crlf word start' line' crlf' word' : Bool) (l : Look)
    → (start ≡ true → start' ≡ true)
    → (line ≡ true → line' ≡ true)
    → (crlf ≡ true → crlf' ≡ true)
    → (word ≡ true → word' ≡ true)
    → has (known_set start line crlf word) l ≡ true → behind_test start' line' crlf' word' l ≡ true
known-within a b c d a' b' c' d' Start i j k m h = i (sym (has-known_set a b c d Start) ∙ h)
known-within a b c d a' b' c' d' l i j k m h =
    let e : behind_test a b c d l ≡ true = sym (has-known_set a b c d l) ∙ h in grind arith
