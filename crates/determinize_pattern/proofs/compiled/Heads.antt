-- A pattern as a word and what follows it.
-- Main statements: pushed_more, head_made, word_head, none_head, heads_more, heads_begun.
-- Used by: the proofs of `part` and `push_words`.
-- Idea: what follows the word finds, where the word ends, what the whole pattern finds.
use Rattle.std.specs.List.{flat_map}
use Rattle.std.specs.Prelude.{Contains, cond, nat_lt, slice_get}
use Rattle.std.proofs.Common.{◌≡◌, ◌++◌, ◌∙◌, ◌∷◌, ℕ, List, None, Option, Some, [], ap, refl, suc, sym}
use Rattle.std.proofs.lemmas.List.{append-nil}
use Rattle.std.proofs.lemmas.List.Concat.{flat_map-append}
use Rattle.ordered_reach.proofs.lists.Elements.{Contains_from_In, In, In_append_left, In_append_right, In_flat_map, In_from_Contains, flat_map_same}
use Rattle.determinize_below.specs.Semantics.{Nfa, Text}
use Rattle.determinize_nfa.specs.Builder.{BuilderValue}
use Rattle.determinize_pattern.proofs.compiled.Compiling.{empty_begun}
use Rattle.determinize_pattern.proofs.compiled.Growing.{continues_old, extends_same, extends_then}
use Rattle.determinize_pattern.proofs.entries.Parts.{flat_map-flat_map, if_same}
use Rattle.determinize_pattern.specs.Meaning.{Byte, Empty, Re, Then, ends, is_in}
use Rattle.determinize_pattern.specs.Patterns.{choice, literal}
use Rattle.determinize_pattern.specs.Private.Compiling.{Continues, Extends, IsBegun}
use Rattle.determinize_pattern.specs.Private.Entries.{Finds, IsEntry, target_of_end}
use Rattle.determinize_pattern.specs.Private.Words.{AllFind, IsHead, IsTree, Lead, SameEnds, all_found, words_of}

pub no_ends : (t : ℕ) (text : Text) (i : ℕ) → ends t text (Byte []) i ≡ []
no_ends t text i = go (slice_get text.bytes i)
  where
    go : (o : Option ℕ) → cond (is_in [] o) (suc i ∷ []) [] ≡ []
    go None = refl
    go (Some b) = refl

-- one word and then another
words_ends : (t : ℕ) (text : Text) (v w : List ℕ) (i : ℕ)
    → ends t text (literal (v ++ w)) i ≡ flat_map (ends t text (literal w)) (ends t text (literal v) i)
words_ends t text [] w i = sym (append-nil (ends t text (literal w) i))
words_ends t text (b ∷ v) w i =
    flat_map_same (ends t text (literal (v ++ w))) (λ j. flat_map (ends t text (literal w)) (ends t text (literal v) j))
    (ends t text (Byte ((b, b) ∷ [])) i) (λ j k. words_ends t text v w j)
    ∙ sym (flat_map-flat_map (ends t text (literal w)) (ends t text (literal v)) (ends t text (Byte ((b, b) ∷ [])) i))

-- a word that is next becomes part of the word before
pub pushed_more : (v w : List ℕ) (p rest whole : Re) → SameEnds p (literal w)
    → SameEnds whole (Then (literal v) (Then p rest)) → SameEnds whole (Then (literal (v ++ w)) rest)
pushed_more v w p rest whole h k t text i =
    k t text i
    ∙ flat_map_same (λ j. flat_map (ends t text rest) (ends t text p j))
    (λ j. flat_map (ends t text rest) (ends t text (literal w) j)) (ends t text (literal v) i)
    (λ j m. ap (flat_map (ends t text rest)) (h t text j))
    ∙ sym (flat_map-flat_map (ends t text rest) (ends t text (literal w)) (ends t text (literal v) i))
    ∙ ap (flat_map (ends t text rest)) (sym (words_ends t text v w i))

-- a pattern is the empty word and itself
pub no_word : (p : Re) → SameEnds p (Then (literal []) p)
no_word p t text i = sym (append-nil (ends t text p i))

singles : (js : List ℕ) → flat_map (λ j. j ∷ []) js ≡ js
singles [] = refl
singles (j ∷ js) = rw (singles js) refl

-- a word is itself and then nothing
pub whole_word : (p : Re) (w : List ℕ) → SameEnds p (literal w) → SameEnds p (Then (literal w) Empty)
whole_word p w h t text i = h t text i ∙ sym (singles (ends t text (literal w) i))

pub head_made : (old new : BuilderValue) (re rest : Re) (next : ℕ) (bytes : List ℕ) (s : ℕ)
    → IsBegun old new rest next s
    → SameEnds (Then (literal []) re) (Then (literal bytes) rest) → IsHead old new re next (bytes, s)
head_made old new re rest next bytes s h k =
    record { rest = rest; begun = h; same = λ t text i. no_word re t text i ∙ k t text i }

pub word_head : (b : BuilderValue) (re : Re) (next : ℕ) (bytes word : List ℕ) → bytes ≡ [] ++ word
    → SameEnds re (literal word) → IsHead b b re next (bytes, next)
word_head b re next bytes word e h =
    let same : bytes ≡ word = e in
    rw same (record { rest = Empty; begun = empty_begun b next; same = λ t text i. whole_word re word h t text i })

pub none_head : (old new : BuilderValue) (re : Re) (next : ℕ) (bytes : List ℕ) (s : ℕ) → bytes ≡ []
    → IsBegun old new re next s → IsHead old new re next (bytes, s)
none_head old new re next bytes s e h =
    rw e (record { rest = re; begun = h; same = λ t text i. no_word re t text i })

module _ (nfa : Nfa) (text : Text) where
  abbrev E : Re → ℕ → List ℕ
  E re = ends nfa.terminator text re

  -- the state after the word begins what follows it
  pub record Head (re : Re) (next : ℕ) (word : List ℕ × ℕ) : Type 0 where
    pub rest : Re
    pub entry : IsEntry nfa text rest next next word.1
    pub same : (i : ℕ) → E re i ≡ E (Then (literal word.0) rest) i

  abbrev pub EachHead : List Re → ℕ → List (List ℕ × ℕ) → Type 0
  EachHead [] next [] = Unit {0}
  EachHead (re ∷ res) next (w ∷ ws) = Head re next w × EachHead res next ws
  EachHead _ next _ = ⊥

  each_more : (res : List Re) (next : ℕ) (ws : List (List ℕ × ℕ)) (re : Re) (w : List ℕ × ℕ) → EachHead res next ws
      → Head re next w → EachHead (res ++ re ∷ []) next (ws ++ w ∷ [])
  each_more [] next [] re w h f = (f, tt)
  each_more [] next (v ∷ ws) re w h f = absurd h
  each_more (p ∷ res) next [] re w h f = absurd h
  each_more (p ∷ res) next (v ∷ ws) re w h f = (h.0, each_more res next ws re w h.1 f)

  module _ (next i : ℕ) (zs : ℕ → List (ℕ × ℕ)) where
    -- what is found where each word ends
    record Leads (res : List Re) (ws : List (List ℕ × ℕ)) : Type 0 where
      leads : List (List ℕ × Lead)
      are : words_of leads ≡ ws
      find : AllFind nfa text i leads
      found : all_found nfa text i leads ≡ flat_map zs (E (choice res) i)

    leads_of : (res : List Re) (ws : List (List ℕ × ℕ)) → EachHead res next ws
        → ((j : ℕ) → Contains (E (choice res) i) j → Finds nfa text (target_of_end i j next next) j (zs j))
        → Leads res ws
    leads_of [] [] h f = record { leads = []; are = refl; find = tt; found = rw (no_ends nfa.terminator text i) refl }
    leads_of [] (w ∷ ws) h f = absurd h
    leads_of (re ∷ res) [] h f = absurd h
    leads_of (re ∷ res) (w ∷ ws) h f =
        let later = leads_of res ws h.1 (λ j c. f j (Contains_from_In (E re i ++ E (choice res) i) j
        (In_append_right j (E re i) (E (choice res) i) (In_from_Contains (E (choice res) i) j c)))) in
        let rest = h.0.rest in
        let lead : Lead = record { state = w.1; found = λ j. flat_map zs (E rest j) } in
        record {
          leads = (w.0, lead) ∷ later.leads;
          are = ap (λ (vs : List (List ℕ × ℕ)). w ∷ vs) later.are;
          find = (
            λ j c. h.0.entry j zs (λ k d.
                let here : In k (E re i) = rw (h.0.same i)
                (In_flat_map (E rest) (E (literal w.0) i) j k
                (In_from_Contains (E (literal w.0) i) j c) (In_from_Contains (E rest j) k d)) in
                rw (if_same (nat_lt j k) next) (rw (if_same (nat_lt i k) next) at
                (f k (Contains_from_In (E re i ++ E (choice res) i) k
                (In_append_left k (E re i) (E (choice res) i) here))))),
            later.find,
          );
          found = rw (later.found, flat_map-append zs (E re i) (E (choice res) i), h.0.same i)
              (ap (λ (xs : List (ℕ × ℕ)). xs ++ flat_map zs (E (choice res) i))
              (sym (flat_map-flat_map zs (E rest) (E (literal w.0) i))));
        }

-- the words with which patterns begin
pub record AreHeads (old new : BuilderValue) (res : List Re) (next : ℕ) (words : List (List ℕ × ℕ)) : Type 0 where
  pub extends : Extends old new
  pub heads : (nfa : Nfa) → Continues new nfa → (text : Text) → EachHead nfa text res next words

pub heads_none : (b : BuilderValue) (next : ℕ) → AreHeads b b [] next []
heads_none b next = record { extends = extends_same b; heads = λ nfa c text. tt }

pub heads_more : (old mid new : BuilderValue) (res : List Re) (next : ℕ) (words : List (List ℕ × ℕ)) (re : Re)
    (word : List ℕ × ℕ) → AreHeads old mid res next words → IsHead mid new re next word
    → AreHeads old new (res ++ re ∷ []) next (words ++ word ∷ [])
heads_more old mid new res next words re word h f = record {
  extends = extends_then old mid new h.extends f.begun.extends;
  heads = λ nfa c text. each_more nfa text res next words re word
      (h.heads nfa (continues_old mid new f.begun.extends nfa c) text)
      (record { rest = f.rest; entry = f.begun.entry nfa c text; same = λ i. f.same nfa.terminator text i });
}

pub heads_begun : (old mid new : BuilderValue) (res : List Re) (next : ℕ) (words : List (List ℕ × ℕ)) (s : ℕ)
    → AreHeads old mid res next words → IsTree mid new words s → IsBegun old new (choice res) next s
heads_begun old mid new res next words s h f = record {
  extends = extends_then old mid new h.extends f.extends;
  entry = λ nfa c text i zs g.
      let k = leads_of nfa text next i zs res words (h.heads nfa (continues_old mid new f.extends nfa c) text) g in
      rw k.found at (f.finds nfa c text k.leads k.are i k.find);
}
