-- What the calls of the compiler add for the parts of a pattern, but for loops.
-- Main statements: empty_compiled, one_compiled, look_compiled, then_compiled, choice_compiled, optional_compiled.
-- Used by: Looping, Heads and the proofs of `part` and `tree`.
-- Idea: a part that reads needs no target for nothing read, and one that reads nothing none for bytes read.
use Rattle.std.specs.Prelude.{cond, slice_get, slice_index, slice_index_or}
use Rattle.std.proofs.Common.{◌≡◌, ◌-◌, ◌<◌, ◌≤◌, ◌++◌, ◌∙◌, ◌∷◌, ℕ, Bool, Err, IfOk, List, None, Ok, OnOk, Result, Some, [], ap, arith, false, inr, length, refl, replicate, set, suc, sym, true, zero, get_or-set_same, length-set}
use Rattle.std.proofs.lemmas.List.{get_or-replicate, get_or_push, length-replicate, length_push}
use Rattle.std.proofs.lemmas.Option.{get_or_from_slice_get, slice_get-get_or, slice_get_within}
use Rattle.determinize_below.specs.Semantics.{ByteRange, Fail, Look, Nfa, Node, Sparse, Text, Union, state_at}
use Rattle.determinize_below.specs.declared.look.Look.{Look as Assertion}
use Rattle.determinize_below.specs.declared.nfa.transitions.Transition.{Transition}
use Rattle.determinize_nfa.specs.Builder.{BuilderValue, with_node}
use Rattle.determinize_pattern.proofs.compiled.Growing.{continues_old, extends_same, extends_then, grown, is_new}
use Rattle.determinize_pattern.proofs.compiled.Reads.{AlwaysStays, reads_byte, stays_empty, stays_look}
use Rattle.determinize_pattern.proofs.entries.Leaves.{byte_entry, empty_entry, fail_entry, look_entry, sparse_entry}
use Rattle.determinize_pattern.proofs.entries.Parts.{if_moved, if_stayed, or_entry, then_entry}
use Rattle.determinize_pattern.specs.Meaning as re
use Rattle.determinize_pattern.specs.Meaning.{Re, ends}
use Rattle.determinize_pattern.specs.Patterns.{copies, optional, repeated}
use Rattle.determinize_pattern.specs.Private.Compiling.{AddsEach, AlwaysReads, Continues, HasNode, IsBegun, IsCompiled, IsUnread, Precedes}
use Rattle.determinize_pattern.specs.Private.Entries.{IsEntry, in_order, leading}
use Rattle.determinize_pattern.specs.declared.nfa.CompileError.{CompileError}

-- an entry of a pattern that reads does not need the target for nothing read
pub reading_entry : (nfa : Nfa) (text : Text) (a : Re) (moved stayed other s : ℕ) → AlwaysReads a
    → IsEntry nfa text a moved stayed s → IsEntry nfa text a moved other s
reading_entry nfa text a moved stayed other s r h i zs k = h i zs (λ j c.
    let l : i < j = r nfa.terminator text i j c in
    rw (if_moved i j moved stayed l) (rw (if_moved i j moved other l) at (k j c)))

-- and one of a pattern that reads nothing not that for bytes read
staying_entry : (nfa : Nfa) (text : Text) (a : Re) (moved stayed other s : ℕ) → AlwaysStays a
    → IsEntry nfa text a moved stayed s → IsEntry nfa text a other stayed s
staying_entry nfa text a moved stayed other s r h i zs k = h i zs (λ j c.
    let l : j ≡ i = r nfa.terminator text i j c in
    rw (if_stayed i j moved stayed l) (rw (if_stayed i j other stayed l) at (k j c)))

pub compiled_after : (first : ℕ) (a b c : BuilderValue) (p : Re) (ids es : List ℕ) → b ≡ a
    → IsCompiled first b c p ids es → IsCompiled first a c p ids es
compiled_after first a b c p ids es e h = rw e at h

-- fewer entries are wanted
pub later_compiled : (more first : ℕ) (old new : BuilderValue) (p : Re) (ids es : List ℕ) → more ≤ first
    → IsCompiled more old new p ids es → IsCompiled first old new p ids es
later_compiled more first old new p ids es m h = record {
  extends = h.extends;
  len = h.len;
  each = λ nfa c text k w l. h.each nfa c text k (omega (arith, m, w)) l;
}

pub empty_compiled : (first : ℕ) (b : BuilderValue) (ids : List ℕ) → IsCompiled first b b re.Empty ids ids
empty_compiled first b ids = record {
  extends = extends_same b;
  len = refl;
  each = λ nfa h text k w l. staying_entry nfa text re.Empty (slice_index ids k) (slice_index ids k) (slice_index ids 0)
      (slice_index ids k) stays_empty (empty_entry nfa text (slice_index ids k));
}

-- one entry of a pattern that reads is enough
pub one_compiled : (first : ℕ) (old new : BuilderValue) (p : Re) (ids es : List ℕ) (s : ℕ) → AlwaysReads p
    → IsBegun old new p (slice_index ids 0) s → es ≡ replicate (length ids) s → IsCompiled first old new p ids es
one_compiled first old new p ids es s r h e = record {
  extends = h.extends;
  len = ap length e ∙ length-replicate (length ids) s;
  each = λ nfa c text k w l.
      let is : slice_index es k ≡ s = rw e (get_or-replicate (length ids) k s 0 l) in
      rw is (reading_entry nfa text p (slice_index ids 0) (slice_index ids 0) (slice_index ids k) s r
      (h.entry nfa c text));
}

-- with one id, one entry is enough
pub only_compiled : (first : ℕ) (old new : BuilderValue) (p : Re) (ids xs : List ℕ) (s : ℕ) → length ids ≡ 1
    → length xs ≡ length ids → IsBegun old new p (slice_index ids 0) s → IsCompiled first old new p ids (set xs 0 s)
only_compiled first old new p ids xs s l d h = record {
  extends = h.extends;
  len = length-set xs 0 s ∙ d;
  each = λ nfa c text k w m.
      let z : k ≡ 0 = omega (arith, l, m) in
      rw (z, get_or-set_same xs 0 s 0 (omega (arith, l, d))) (h.entry nfa c text);
}

pub begun_of : (old new : BuilderValue) (p : Re) (next : ℕ) (es : List ℕ) → IsCompiled 0 old new p (next ∷ []) es
    → IsBegun old new p next (slice_index es 0)
begun_of old new p next es h = record {
  extends = h.extends;
  entry = λ nfa c text. h.each nfa c text 0 (omega arith) (omega arith);
}

-- a state of the builder is one of the NFA
node_at : (b : BuilderValue) (node : Node) (s : ℕ) → slice_get b.states s ≡ Some node → (node ≡ Union [] → ⊥)
    → (nfa : Nfa) → Continues b nfa → state_at nfa s ≡ node
node_at b node s e w nfa c =
    let is : slice_index_or b.states s Fail ≡ node = get_or_from_slice_get b.states s node Fail e in
    c.states s (slice_get_within b.states s node e) (λ z. w (sym is ∙ z)) ∙ is

pub node_added : (old new : BuilderValue) (node : Node) (s : ℕ) → s ≡ length old.states → new ≡ with_node old node
    → HasNode old new node s
node_added old new node s e g = rw (g, e) (record {
  extends = grown old node;
  node_is = slice_get-get_or (old.states ++ node ∷ []) (length old.states) Fail
      (omega (arith, length_push old.states node))
      ∙ ap Some (get_or_push old.states node Fail (length old.states) refl);
})

pub node_kept : (b : BuilderValue) (node : Node) (s : ℕ) → slice_get b.states s ≡ Some node → HasNode b b node s
node_kept b node s e = record { extends = extends_same b; node_is = e }

-- a new state that begins the pattern in each NFA that has it
leaf : (old new : BuilderValue) (node : Node) (p : Re) (next s : ℕ) → s ≡ length old.states → new ≡ with_node old node
    → (node ≡ Union [] → ⊥)
    → ((nfa : Nfa) → nfa.reverse ≡ false → (text : Text) → state_at nfa s ≡ node → IsEntry nfa text p next next s)
    → IsBegun old new p next s
leaf old new node p next s e g w f = rw g (record {
  extends = grown old node;
  entry = λ nfa h text. f nfa h.forward text (is_new old node nfa h w s e);
})

pub byte_begun : (old new : BuilderValue) (t : Transition) (s : ℕ) → HasNode old new (ByteRange t) s
    → IsBegun old new (re.Byte ((t.start, t.end) ∷ [])) t.next s
byte_begun old new t s h = record {
  extends = h.extends;
  entry = λ nfa c text.
      let is = node_at new (ByteRange t) s h.node_is (λ z. let k : ByteRange t ≡ Union [] = z in cc) nfa c in
      byte_entry nfa text t s is;
}

pub sparse_begun : (old new : BuilderValue) (ranges : List (ℕ × ℕ)) (next s : ℕ) → s ≡ length old.states
    → new ≡ with_node old (Sparse (leading next ranges)) → IsBegun old new (re.Byte ranges) next s
sparse_begun old new ranges next s e g = leaf old new (Sparse (leading next ranges)) (re.Byte ranges) next s e g
    (λ z. let k : Sparse (leading next ranges) ≡ Union [] = z in cc)
    (λ nfa r text i. sparse_entry nfa text ranges next s i)

pub fail_begun : (old new : BuilderValue) (next s : ℕ) → s ≡ length old.states
    → new ≡ with_node old Fail → IsBegun old new (re.Byte []) next s
fail_begun old new next s e g = leaf old new Fail (re.Byte []) next s e g
    (λ z. let k : Fail ≡ Union [] = z in cc) (λ nfa r text i. fail_entry nfa text next s i)

-- a class without ranges, and one with a single range
pub class_none : (old new : BuilderValue) (ts : List Transition) (ranges : List (ℕ × ℕ)) (next s : ℕ)
    → ts ≡ leading next ranges → length ts ≡ 0 → s ≡ length old.states → new ≡ with_node old Fail
    → IsBegun old new (re.Byte ranges) next s
class_none old new ts [] next s d l e g = fail_begun old new next s e g
class_none old new ts (r ∷ rest) next s d l e g = absurd (omega (arith, l, ap length d))

pub class_one : (old new : BuilderValue) (ts : List Transition) (t : Transition) (ranges : List (ℕ × ℕ)) (next s : ℕ)
    → ts ≡ leading next ranges → length ts ≡ 1 → t ≡ slice_index_or ts 0 t → HasNode old new (ByteRange t) s
    → IsBegun old new (re.Byte ranges) next s
class_one old new ts t [] next s d l i h = absurd (omega (arith, l, ap length d))
class_one old new ts t (r ∷ []) next s d l i h =
    let is : t ≡ record { start = r.0; end = r.1; next = next }
    = i ∙ ap (λ (w : List Transition). slice_index_or w 0 t) d in
    byte_begun old new (record { start = r.0; end = r.1; next = next }) s (rw is at h)
class_one old new ts t (r ∷ q ∷ rest) next s d l i h = absurd (omega (arith, l, ap length d))

pub then_begun : (a b : Re) (old mid new : BuilderValue) (next m s : ℕ) → IsBegun old mid b next m
    → IsBegun mid new a m s → IsBegun old new (re.Then a b) next s
then_begun a b old mid new next m s hb ha = record {
  extends = extends_then old mid new hb.extends ha.extends;
  entry = λ nfa h text.
      let c = continues_old mid new ha.extends nfa h in
      then_entry nfa text a b next next m m s (hb.entry nfa c text) (hb.entry nfa c text) (ha.entry nfa h text);
}

pub empty_begun : (b : BuilderValue) (next : ℕ) → IsBegun b b re.Empty next next
empty_begun b next = record { extends = extends_same b; entry = λ nfa h text. empty_entry nfa text next }

pub nothing_compiled : (first : ℕ) (old new : BuilderValue) (ids es : List ℕ) (s : ℕ) → s ≡ length old.states
    → new ≡ with_node old Fail → es ≡ replicate (length ids) s → IsCompiled first old new (re.Byte []) ids es
nothing_compiled first old new ids es s e g f =
    one_compiled first old new (re.Byte []) ids es s (reads_byte []) (fail_begun old new (slice_index ids 0) s e g) f

pub look_compiled : (first : ℕ) (old new : BuilderValue) (look : Assertion) (ids es : List ℕ)
    → AddsEach first old new ids es (λ k. Look look (slice_index ids k))
    → IsCompiled first old new (re.Look look) ids es
look_compiled first old new look ids es h = record {
  extends = h.extends;
  len = h.len;
  each = λ nfa c text k w l.
      staying_entry nfa text (re.Look look) (slice_index ids k) (slice_index ids k) (slice_index ids 0)
      (slice_index es k) (stays_look look)
      (λ i. look_entry nfa text look (slice_index ids k) (slice_index es k) c.forward (h.each nfa c k w l) i);
}

pub then_compiled : (first : ℕ) (a b : Re) (old mid new : BuilderValue) (ids ms es : List ℕ) → 0 < length ids
    → IsCompiled 0 old mid b ids ms → IsCompiled first mid new a ms es
    → IsCompiled first old new (re.Then a b) ids es
then_compiled first a b old mid new ids ms es some hb ha = record {
  extends = extends_then old mid new hb.extends ha.extends;
  len = ha.len ∙ hb.len;
  each = λ nfa h text k w l.
      let c = continues_old mid new ha.extends nfa h in
      then_entry nfa text a b (slice_index ids 0) (slice_index ids k) (slice_index ms 0) (slice_index ms k)
      (slice_index es k) (hb.each nfa c text 0 (omega arith) some) (hb.each nfa c text k (omega arith) l)
      (ha.each nfa h text k w (omega (arith, l, hb.len)));
}

-- a choice between each entry of one pattern and that of another
pub choice_compiled : (wins : Bool) (first : ℕ) (a b : Re) (old mid more new : BuilderValue) (ids xs ys es : List ℕ)
    → IsCompiled first old mid a ids xs → IsCompiled first mid more b ids ys
    → AddsEach first more new xs es (λ k. Union (in_order wins (slice_index xs k) (slice_index ys k)))
    → IsCompiled first old new (cond wins (re.Or a b) (re.Or b a)) ids es
choice_compiled wins first a b old mid more new ids xs ys es ha hb h = record {
  extends = extends_then old more new (extends_then old mid more ha.extends hb.extends) h.extends;
  len = h.len ∙ ha.len;
  each = λ nfa c text k w l.
      let f = continues_old more new h.extends nfa c in
      go wins nfa text k (ha.each nfa (continues_old mid more hb.extends nfa f) text k w l) (hb.each nfa f text k w l)
      (h.each nfa c k w (omega (arith, l, ha.len)));
}
  where
    go : (w : Bool) (nfa : Nfa) (text : Text) (k : ℕ)
        → IsEntry nfa text a (slice_index ids 0) (slice_index ids k) (slice_index xs k)
        → IsEntry nfa text b (slice_index ids 0) (slice_index ids k) (slice_index ys k)
        → state_at nfa (slice_index es k) ≡ Union (in_order w (slice_index xs k) (slice_index ys k))
        → IsEntry nfa text (cond w (re.Or a b) (re.Or b a)) (slice_index ids 0) (slice_index ids k) (slice_index es k)
    go true nfa text k f g e = or_entry nfa text a b (slice_index ids 0) (slice_index ids k) (slice_index xs k)
        (slice_index ys k) (slice_index es k) f g e
    go false nfa text k f g e = or_entry nfa text b a (slice_index ids 0) (slice_index ids k) (slice_index ys k)
        (slice_index xs k) (slice_index es k) g f e

-- a choice between a pattern and nothing
pub optional_compiled : (greedy : Bool) (first : ℕ) (a : Re) (old mid new : BuilderValue) (ids xs others es : List ℕ)
    → others ≡ ids → IsCompiled first old mid a ids xs
    → AddsEach first mid new xs es (λ k. Union (in_order greedy (slice_index xs k) (slice_index others k)))
    → IsCompiled first old new (optional greedy a) ids es
optional_compiled greedy first a old mid new ids xs others es e ha h =
    choice_compiled greedy first a re.Empty old mid mid new ids xs ids es ha (empty_compiled first mid ids) (rw e at h)

pub ok_both : {P : ℕ → Type 0} {Q : Type 0} {R : ℕ → Type 0} (r : Result ℕ CompileError) → IfOk r P → OnOk r Q
    → ((s : ℕ) → P s → Q → R s) → IfOk r R
ok_both (Ok s) p q f = f s p q
ok_both (Err e) p q f = tt

pub on_both : {P Q R : Type 0} (r : Result (Unit {0}) CompileError) → OnOk r P → OnOk r Q → (P → Q → R) → OnOk r R
on_both (Ok s) p q f = f p q
on_both (Err e) p q f = tt

pub unread_fails : (old new : BuilderValue) (p : Re) (r : Result ℕ CompileError) → IfOk r (λ s. s ≡ length old.states)
    → OnOk r (new ≡ with_node old Fail) → IfOk r (λ s. IsUnread old new p s)
unread_fails old new p (Ok s) e g = rw g (record {
  extends = grown old Fail;
  fails = inr (λ nfa c. is_new old Fail nfa c (λ z. let y : Fail ≡ Union [] = z in cc) s e);
})
unread_fails old new p (Err e) f g = tt

pub unread_kept : (b : BuilderValue) (p : Re) (s : ℕ) → slice_get b.states s ≡ Some Fail → IsUnread b b p s
unread_kept b p s e = record {
  extends = extends_same b;
  fails = inr (node_at b Fail s e (λ z. let y : Fail ≡ Union [] = z in cc));
}

pub precedes_none : (first : ℕ) (b : BuilderValue) (a : Re) (ids : List ℕ)
    → Precedes first first b b (copies 0 a) ids ids
precedes_none first b a ids old p targets some h = h

pub precedes_more : (behind first : ℕ) (mid new last : BuilderValue) (n : ℕ) (a : Re) (ids ms es : List ℕ)
    → Precedes behind 0 mid new (copies n a) ids ms → IsCompiled first new last a ms es
    → Precedes behind first mid last (copies (suc n) a) ids es
precedes_more behind first mid new last n a ids ms es f h old p targets some k =
    then_compiled first a (copies n a p) old new last targets ms es some (f old p targets some k) h

pub repeated_some : (min : ℕ) (greedy : Bool) (a : Re) → (min ≡ 0 → ⊥)
    → repeated min None greedy a ≡ copies (min - 1) a (re.Plus greedy a)
repeated_some zero greedy a h = absurd (h refl)
repeated_some (suc n) greedy a h =
    let back : n ≡ suc n - 1 = omega arith in ap (λ m. copies m a (re.Plus greedy a)) back
