-- One state for branches that begin with classes of bytes, where no byte is in two of them.
-- Main statements: within_more, row_first, first_len, class_rest, row_rest, read_more, read_begun.
-- Used by: the proofs of `part`, `first_class` and `past_class`.
-- Idea: at a position only the branch whose class has the next byte finds anything.
use Rattle.std.specs.Borrow.{Bor}
use Rattle.std.specs.List.{flat_map}
use Rattle.std.specs.Prelude.{Contains, nat_lt, slice_get}
use Rattle.std.proofs.Common.{◌≡◌, ◌+◌, ◌≤◌, ◌++◌, ◌⊎◌, ◌∙◌, ◌∷◌, ℕ, Global, List, None, Some, Vec, [], ap, append_assoc, arith, drop, false, inl, inr, length, map, max, min, refl, suc, sym, true}
use Rattle.std.proofs.lemmas.Bool.Decides.{nat_tests}
use Rattle.std.proofs.lemmas.List.{append-nil}
use Rattle.ordered_reach.proofs.Cases.{by_cases, by_option, by_test, some_injective}
use Rattle.ordered_reach.proofs.walks.Steps.{list_none, list_one}
use Rattle.determinize_below.specs.Semantics.{Nfa, Sparse, Text, Union, choices, state_at, within}
use Rattle.determinize_below.specs.declared.nfa.transitions.Transition.{Transition}
use Rattle.determinize_nfa.specs.Builder.{BuilderValue, with_node}
use Rattle.determinize_pattern.proofs.classes.Scanning.{in_push}
use Rattle.determinize_pattern.proofs.compiled.Compiling.{empty_begun}
use Rattle.determinize_pattern.proofs.compiled.Growing.{continues_old, extends_then, grown, is_new}
use Rattle.determinize_pattern.proofs.compiled.Heads.{no_ends}
use Rattle.determinize_pattern.proofs.compiled.Patterns.{meaning_class, meaning_concat}
use Rattle.determinize_pattern.proofs.compiled.Trees.{next_at, next_more}
use Rattle.determinize_pattern.proofs.entries.Leaves.{class_target}
use Rattle.determinize_pattern.proofs.entries.Parts.{if_same, next_of, unlabelled}
use Rattle.determinize_pattern.specs.Meaning.{Byte, Empty, Re, Then, ends, is_in}
use Rattle.determinize_pattern.specs.Patterns.{choice, meaning, sequence}
use Rattle.determinize_pattern.specs.Private.Compiling.{Continues, Extends, IsBegun}
use Rattle.determinize_pattern.specs.Private.Entries.{Finds, leading, matched, target_of_end}
use Rattle.determinize_pattern.specs.Private.FirstClasses.{AreFirst, IsRest, IsBetween}
use Rattle.determinize_pattern.specs.declared.pattern.Pattern.{Pattern}
use Rattle.determinize_pattern.specs.declared.pattern.Pattern.TheVariants.{Class, Concat}

pub within_more : (low past start end : ℕ) (class : List (ℕ × ℕ)) → IsBetween low past class → past ≤ start
    → IsBetween low (max past (end + 1)) (class ++ (start, end) ∷ [])
within_more low past start end class h l = (
  omega (arith, h.0),
  λ b e. by_test (is_in class (Some b))
      (λ z. let k = h.1 b z in (k.0, omega (arith, k.1)))
      (λ z. let k : within start end b ≡ true = grind (arith, nat_tests, in_push class start end b) in
      (grind (arith, nat_tests, h.0), grind (arith, nat_tests))),
)

-- a row that begins with a class
pub row_first : (subs : Vec Pattern Global) (pattern first : Pattern) (class : List (ℕ × ℕ)) → pattern ≡ Concat subs
    → Some first ≡ slice_get subs.items 0 → first ≡ Class class
    → meaning pattern ≡ Then (Byte class) (sequence (map meaning (drop 1 subs.items)))
row_first subs pattern first class e k f = rw (e, meaning_concat subs) (go subs.items k)
  where
    go : (ps : List Pattern) → Some first ≡ slice_get ps 0
        → sequence (map meaning ps) ≡ Then (Byte class) (sequence (map meaning (drop 1 ps)))
    go [] m = absurd (cc)
    go (p ∷ ps) m =
        let same : p ≡ Class class = some_injective p first (sym m) ∙ f in
        let is : meaning p ≡ Byte class = ap meaning same ∙ meaning_class class in
        rw is refl

-- as many classes as branches
pub first_len : (low : ℕ) (patterns : List Pattern) (classes : List (Bor (List (ℕ × ℕ))))
    → AreFirst low patterns classes → length classes ≡ length patterns
first_len low [] [] h = refl
first_len low [] (c ∷ cs) h = absurd h
first_len low (p ∷ ps) [] h = absurd h
first_len low (p ∷ ps) (c ∷ cs) h = ap suc (first_len h.0 ps cs h.3)

-- a byte of a class and then a pattern
module _ (t : ℕ) (text : Text) (i : ℕ) (class : List (ℕ × ℕ)) (rest : Re) where
  then_in : is_in class (slice_get text.bytes i) ≡ true
      → ends t text (Then (Byte class) rest) i ≡ ends t text rest (suc i)
  then_in e = rw e (append-nil (ends t text rest (suc i)))

  then_out : is_in class (slice_get text.bytes i) ≡ false → ends t text (Then (Byte class) rest) i ≡ []
  then_out e = rw e refl

class_then : (class : List (ℕ × ℕ)) (t : ℕ) (text : Text) (i : ℕ)
    → ends t text (Byte class) i ≡ ends t text (Then (Byte class) Empty) i
class_then class t text i = by_test (is_in class (slice_get text.bytes i)) (λ e. rw e refl) (λ e. rw e refl)

-- a class has nothing after it
pub class_rest : (b : BuilderValue) (re : Re) (class : List (ℕ × ℕ)) (next : ℕ) → re ≡ Byte class
    → IsRest b b re class next next
class_rest b re class next e =
    rw e (record { rest = Empty; begun = empty_begun b next; same = λ t text i. class_then class t text i })

-- what is after the first part of a row
pub row_rest : (old new : BuilderValue) (subs : List Pattern) (count : ℕ) (re : Re) (class : List (ℕ × ℕ)) (next s : ℕ)
    → count ≡ min 1 (length subs) → IsBegun old new (sequence (map meaning (drop count subs))) next s
    → re ≡ sequence (map meaning subs) → (re ≡ Byte class) ⊎ ((rest : Re) × (re ≡ Then (Byte class) rest))
    → IsRest old new re class next s
row_rest old new [] count re class next s c h e k =
    by_cases k (λ m. absurd (cc)) (λ m. let n = m.1 in absurd (cc))
row_rest old new (p ∷ ps) count re class next s c h e k = by_cases k
    (λ m. absurd (cc))
    (λ m.
    let n = m.1 in
    let first : meaning p ≡ Byte class = cc in
    let whole : re ≡ Then (Byte class) (sequence (map meaning ps)) = rw first at e in
    let one : count ≡ 1 = omega (arith, c) in
    rw whole (record { rest = sequence (map meaning ps); begun = rw one at h; same = λ t text i. refl }))

-- a branch more is one that is preferred last
choice_more : (t : ℕ) (text : Text) (res : List Re) (re : Re) (i : ℕ)
    → ends t text (choice (res ++ re ∷ [])) i ≡ ends t text (choice res) i ++ ends t text re i
choice_more t text [] re i = rw (no_ends t text i) (append-nil (ends t text re i))
choice_more t text (a ∷ res) re i = ap (λ (js : List ℕ). ends t text a i ++ js) (choice_more t text res re i)
    ∙ sym (append_assoc (ends t text a i) (ends t text (choice res) i) (ends t text re i))

-- no branch finds anything on the byte, or there is a transition on it to what the choice then finds
abbrev ReadAt : BuilderValue → BuilderValue → List Re → ℕ → List Transition → ℕ → Type 0
ReadAt old new res next ts b = ((next_at b ts ≡ None)
    × ((t : ℕ) (text : Text) (i : ℕ) → slice_get text.bytes i ≡ Some b → ends t text (choice res) i ≡ []))
    ⊎ ((s : ℕ) × (rest : Re) × (next_at b ts ≡ Some s) × IsBegun old new rest next s
    × ((t : ℕ) (text : Text) (i : ℕ) → slice_get text.bytes i ≡ Some b
    → ends t text (choice res) i ≡ ends t text rest (suc i)))

-- the transitions read the first byte of the branches, which is below `low`
pub record AreRead (old new : BuilderValue) (res : List Re) (next low : ℕ) (ts : List Transition) : Type 0 where
  pub extends : Extends old new
  pub above : (b : ℕ) → low ≤ b → next_at b ts ≡ None
  pub at : (b : ℕ) → ReadAt old new res next ts b
  pub end : (t : ℕ) (text : Text) (i : ℕ) → slice_get text.bytes i ≡ None → ends t text (choice res) i ≡ []

pub read_more : (old mid new : BuilderValue) (res : List Re) (next low past : ℕ) (ts : List Transition) (re : Re)
    (class : List (ℕ × ℕ)) (s : ℕ) → AreRead old mid res next low ts → IsRest mid new re class next s
    → IsBetween low past class → AreRead old new (res ++ re ∷ []) next past (ts ++ leading s class)
read_more old mid new res next low past ts re class s h f w = record {
  extends = extends_then old mid new h.extends f.begun.extends;
  above = λ b l. none b (h.above b (omega (arith, w.0))) (out b l);
  at = λ b. by_test (is_in class (Some b)) (here b) (elsewhere b);
  end = λ t text i e. rw (choice_more t text res re i, h.end t text i e, f.same t text i)
      (then_out t text i class f.rest (rw e refl));
}
  where
    none : (b : ℕ) → next_at b ts ≡ None → is_in class (Some b) ≡ false
        → next_at b (ts ++ leading s class) ≡ None
    none b e z = (next_more b ts (leading s class)).1 e ∙ class_target class s b ∙ rw z refl

    out : (b : ℕ) → past ≤ b → is_in class (Some b) ≡ false
    out b l = by_test (is_in class (Some b)) (λ z. let k = w.1 b z in absurd (omega (arith, k.1))) (λ z. z)

    nothing : (b : ℕ) → next_at b ts ≡ None → (t : ℕ) (text : Text) (i : ℕ) → slice_get text.bytes i ≡ Some b
        → ends t text (choice res) i ≡ []
    nothing b e t text i g = by_cases (h.at b) (λ k. k.1 t text i g) (λ k. let m = k.2 in absurd (cc))

    here : (b : ℕ) → is_in class (Some b) ≡ true → ReadAt old new (res ++ re ∷ []) next (ts ++ leading s class) b
    here b z =
        let low_b = w.1 b z in
        let past_all = h.above b low_b.0 in
        inr (
          s,
          f.rest,
          (next_more b ts (leading s class)).1 past_all ∙ class_target class s b ∙ rw z refl,
          record {
            extends = extends_then old mid new h.extends f.begun.extends;
            entry = λ nfa c text. f.begun.entry nfa c text;
          },
          λ t text i e. rw (choice_more t text res re i, nothing b past_all t text i e, f.same t text i)
              (then_in t text i class f.rest (rw e z)),
        )

    elsewhere : (b : ℕ) → is_in class (Some b) ≡ false
        → ReadAt old new (res ++ re ∷ []) next (ts ++ leading s class) b
    elsewhere b z = by_cases (h.at b)
        (λ k. inl (
          none b k.0 z,
          λ t text i e. rw (choice_more t text res re i, k.1 t text i e, f.same t text i)
              (then_out t text i class f.rest (rw e z)),
        ))
        (λ k. inr (
          k.0,
          k.1,
          (next_more b ts (leading s class)).0 k.0 k.2,
          record {
            extends = extends_then old mid new h.extends f.begun.extends;
            entry = λ nfa c text. k.3.entry nfa (continues_old mid new f.begun.extends nfa c) text;
          },
          λ t text i e. rw (
            choice_more t text res re i,
            f.same t text i,
            then_out t text i class f.rest (rw e z),
          ) (append-nil (ends t text (choice res) i) ∙ k.4 t text i e),
        ))

-- a state with these transitions
pub read_begun : (old mid new : BuilderValue) (res : List Re) (next low : ℕ) (ts : List Transition) (s : ℕ)
    → AreRead old mid res next low ts → s ≡ length mid.states → new ≡ with_node mid (Sparse ts)
    → IsBegun old new (choice res) next s
read_begun old mid new res next low ts s h is g = rw g (record {
  extends = extends_then old mid (with_node mid (Sparse ts)) h.extends (grown mid (Sparse ts));
  entry = λ nfa c text i zs f. go nfa c text i zs f;
})
  where
    go : (nfa : Nfa) → Continues (with_node mid (Sparse ts)) nfa → (text : Text) (i : ℕ) (zs : ℕ → List (ℕ × ℕ))
        → ((j : ℕ) → Contains (ends nfa.terminator text (choice res) i) j
        → Finds nfa text (target_of_end i j next next) j (zs j))
        → Finds nfa text s i (flat_map zs (ends nfa.terminator text (choice res) i))
    go nfa c text i zs f =
        let t = nfa.terminator in
        let node : state_at nfa s ≡ Sparse ts
        = is_new mid (Sparse ts) nfa c (λ y. let w : Sparse ts ≡ Union [] = y in cc) s is in
        let label = unlabelled nfa text s i (Sparse ts) node refl in
        by_option (slice_get text.bytes i)
        (λ z. rw (h.end t text i z) (rw label at
        (list_none (choices nfa text) (matched nfa) (i, s) (next_of nfa text s i (Sparse ts) node ∙ rw z refl))))
        (λ b z. by_cases (h.at b)
        (λ k. rw (k.1 t text i z) (rw label at
        (list_none (choices nfa text) (matched nfa) (i, s)
        (next_of nfa text s i (Sparse ts) node ∙ rw (z, k.0) refl))))
        (λ k. rw (k.4 t text i z) (list_one (choices nfa text) (matched nfa) (i, s) (suc i, k.0)
        (flat_map zs (ends t text k.1 (suc i))) (next_of nfa text s i (Sparse ts) node ∙ rw (z, k.2) refl) label
        (k.3.entry nfa (continues_old mid (with_node mid (Sparse ts)) (grown mid (Sparse ts)) nfa c) text (suc i) zs
        (λ j m. rw (if_same (nat_lt (suc i) j) next) (rw (if_same (nat_lt i j) next) at
        (f j (rw (k.4 t text i z) m))))))))
