-- For each byte the least byte of its class.
-- Main statements: least_beside, least_same, least_alike, least_partition, split_uncut, alike_more, alike_all.
-- Used by: Splits, `Partition::{new, is_cut}`, `least_bytes`.
-- Idea: of two bytes that are alike, each is alike to the least byte of the other.
use Rattle.determinize_below.specs.Private.Partition.{AreLeast, AreLeastBelow, ArePartition, AreSplit, AreTogether}
use Rattle.determinize_below.specs.Private.Partition.{AreAlikeBelow, IsBound}
use Rattle.determinize_below.specs.Semantics.{within}
use Rattle.determinize_below.proofs.Common.{◌≡◌, ℕ, ◌<◌, ◌≤◌, List, arith, by_cases, cases_lt, get_or, refl, sym, ◌∙◌}
use Rattle.determinize_below.proofs.Common.{AreAlike, AreTestedAlike, below_more, Fail, get_or_from_slice_get, length}
use Rattle.determinize_below.proofs.Common.{get_or-set_other, get_or-set_same, length-set, set, ◌≢◌, ◌-◌}
use Rattle.determinize_below.proofs.Common.{nat_tests, Nfa, Node, slice_get, Some, state_at, target_of, ◌+◌}
use Rattle.determinize_below.proofs.nfas.Boundaries.{all_states}

-- a relation that is an equivalence
pub record IsEquivalence (R : ℕ → ℕ → Type 0) : Type 0 where
  pub self : (b : ℕ) → R b b
  pub swap : (b c : ℕ) → R b c → R c b
  pub chain : (a b c : ℕ) → R a b → R b c → R a c

-- to be in one class, with the same value of a function, is one
pub together : {A : Type 0} (L : List ℕ) (f : ℕ → A) → IsEquivalence (AreTogether L f)
together L f = record {
  self = λ b. record { class = refl; value = refl };
  swap = λ b c t. record { class = sym t.class; value = sym t.value };
  chain = λ a b c t u. record { class = t.class ∙ u.class; value = t.value ∙ u.value };
}

module _ (R : ℕ → ℕ → Type 0) (L : List ℕ) (n : ℕ) (a : AreLeastBelow n R L) where
  -- the least byte that is alike to the next one is written
  pub least_more : (x : ℕ) → n < 256 → R x n → ((c : ℕ) → c ≤ n → R c n → x ≤ c)
      → AreLeastBelow (n + 1) R (set L n x)
  least_more x is_byte r low =
      let here : get_or (set L n x) n 0 ≡ x = get_or-set_same L n x 0 (omega (arith, a.count)) in
      let before : (b : ℕ) → b < n → get_or (set L n x) b 0 ≡ get_or L b 0 =
      λ b h. let ne : b ≢ n = omega arith in get_or-set_other L n b x 0 ne in
      record {
        count = length-set L n x ∙ a.count;
        alike = below_more _ _ (λ b h. rw (before b h) (a.alike b h)) (rw here r);
        first = λ b c h k t. below_more (λ b. (c : ℕ) → c ≤ b → R c b → get_or (set L n x) b 0 ≤ c) n
            (λ b h c k t. rw (before b h) (a.first b c h k t)) (λ c k t. rw here (low c k t)) b h c k t;
      }

  -- a byte that is alike to the one before it has the same least byte
  pub least_beside : IsEquivalence R → 1 ≤ n → n < 256 → R (n - 1) n
      → AreLeastBelow (n + 1) R (set L n (get_or L (n - 1) 0))
  least_beside e some is_byte r = let before : n - 1 < n = omega arith in
      least_more (get_or L (n - 1) 0) is_byte (e.chain _ (n - 1) n (a.alike (n - 1) before) r)
      (λ c k t. by_cases (cases_lt c n)
      (λ l. a.first (n - 1) c before (omega arith) (e.chain c n (n - 1) t (e.swap (n - 1) n r)))
      (λ l. omega (arith, l, a.first (n - 1) (n - 1) before (omega arith) (e.self (n - 1)))))

module _ (R : ℕ → ℕ → Type 0) (e : IsEquivalence R) (L : List ℕ) (a : AreLeast R L) where
  pub least_below : (b : ℕ) → b < 256 → get_or L b 0 ≤ b
  least_below b h = a.first b b h (omega arith) (e.self b)

  -- the least byte of the one is not above that of the other
  least_half : (b c : ℕ) → b < 256 → c < 256 → R b c → get_or L b 0 ≤ get_or L c 0
  least_half b c h k r = by_cases (cases_lt b (get_or L c 0))
      (λ l. omega (arith, least_below b h))
      (λ l. a.first b (get_or L c 0) h l (e.chain _ c b (a.alike c k) (e.swap b c r)))

  pub least_same : (b c : ℕ) → b < 256 → c < 256 → R b c → get_or L b 0 ≡ get_or L c 0
  least_same b c h k r = omega (arith, least_half b c h k r, least_half c b k h (e.swap b c r))

  pub least_alike : (b c : ℕ) → b < 256 → c < 256 → get_or L b 0 ≡ get_or L c 0 → R b c
  least_alike b c h k same =
      e.chain b (get_or L c 0) c (e.swap _ b (rw same at (a.alike b h))) (a.alike c k)

  pub least_partition : ArePartition L
  least_partition = record {
    count = a.count;
    alike = λ b h. least_same (get_or L b 0) b (omega (arith, least_below b h)) h (a.alike b h);
    first = λ b c h k same. omega (arith, same, least_below c (omega arith));
  }

  -- after classes are split by a function, bytes are alike under both
  pub split_least : {A : Type 0} (f : ℕ → A) (new : List ℕ) (Q : ℕ → ℕ → Type 0)
      → ((b c : ℕ) → R b c → f b ≡ f c → Q b c) → ((b c : ℕ) → Q b c → R b c × (f b ≡ f c))
      → AreSplit f L new → AreLeast Q new
  split_least f new Q both parts s = record {
    count = s.count;
    alike = λ b h.
        let low : get_or new b 0 < 256 = omega (arith, s.first b b h (omega arith) ((together L f).self b)) in
        both _ b (least_alike _ b low h (s.alike b h).class) (s.alike b h).value;
    first = λ b c h k q. s.first b c h k record {
      class = least_same c b (omega arith) h (parts c b q).0;
      value = (parts c b q).1;
    };
  }

-- the new classes are known by their least bytes, too
pub split_partition : {A : Type 0} (f : ℕ → A) (old new : List ℕ) → AreSplit f old new → ArePartition new
split_partition f old new s = least_partition (AreTogether old f) (together old f) new s

-- a range splits no class that has a byte in it, if the least byte and a bound of the class are in it, too
module _ (L G : List ℕ) (p : ArePartition L) (bound : IsBound L G) (start end : ℕ)
    (uncut : (b : ℕ) → start ≤ b → b ≤ end → (start ≤ get_or L b 0) × (get_or G (get_or L b 0) 0 ≤ end)) where
  least_within : (b : ℕ) → b < 256 → within start end (get_or L b 0) ≡ within start end b
  least_within b h =
      let low : get_or L b 0 ≤ b = p.first b b h (omega arith) refl in
      let high : b ≤ get_or G (get_or L b 0) 0 = bound b h in
      let own : get_or L (get_or L b 0) 0 ≡ get_or L b 0 = p.alike b h in
      let least : start ≤ get_or L b 0 → get_or L b 0 ≤ end → get_or G (get_or L b 0) 0 ≤ end =
      λ l m. rw own at ((uncut (get_or L b 0) l m).1) in
      grind (arith, nat_tests, uncut b, least)

  pub split_uncut : AreSplit (within start end) L L
  split_uncut = record {
    count = p.count;
    alike = λ b h. record { class = p.alike b h; value = least_within b h };
    first = λ b c h k t. p.first b c h k t.class;
  }

-- the tests of assertions, and with them the targets of the first states, are equivalences
pub tested_alike : (nfa : Nfa) → IsEquivalence (AreTestedAlike nfa)
tested_alike nfa = record {
  self = λ b. grind arith;
  swap = λ b c t. grind (arith, t);
  chain = λ a b c t u. grind (arith, t, u);
}

module _ (nfa : Nfa) where
  alike_below : (n : ℕ) → IsEquivalence (AreAlikeBelow nfa n)
  alike_below n = record {
    self = λ b. record { tests = (tested_alike nfa).self b; targets = λ s l. refl };
    swap = λ b c t. record { tests = (tested_alike nfa).swap b c t.tests; targets = λ s l. sym (t.targets s l) };
    chain = λ a b c t u. record {
      tests = (tested_alike nfa).chain a b c t.tests u.tests;
      targets = λ s l. t.targets s l ∙ u.targets s l;
    };
  }

  -- one more state splits the classes
  pub alike_more : (i j : ℕ) (n : Node) (old new : List ℕ) → j ≡ i → slice_get nfa.states j ≡ Some n
      → AreLeast (AreAlikeBelow nfa i) old → AreSplit (λ b. target_of (Some b) n) old new
      → AreLeast (AreAlikeBelow nfa (i + 1)) new
  alike_more i j n old new index there o s =
      let at : state_at nfa i ≡ n = rw index at (get_or_from_slice_get nfa.states j n Fail there) in
      split_least (AreAlikeBelow nfa i) (alike_below i) old o (λ b. target_of (Some b) n) new
      (AreAlikeBelow nfa (i + 1)) (λ b c r e. record { tests = r.tests; targets = below_more _ _ r.targets (rw at e) })
      (λ b c q. (
        record { tests = q.tests; targets = λ s l. q.targets s (omega arith) },
        rw at at (q.targets i (omega arith)),
      )) s

  -- all states have split them
  pub alike_all : (n : ℕ) (L : List ℕ) → length nfa.states ≤ n → AreLeast (AreAlikeBelow nfa n) L
      → AreLeast (AreAlike nfa) L
  alike_all n L all a = record {
    count = a.count;
    alike = λ b h. record {
      tests = (a.alike b h).tests;
      targets = all_states nfa _ b (λ s l. (a.alike b h).targets s (omega arith));
    };
    first = λ b c h k t. a.first b c h k record { tests = t.tests; targets = λ s l. t.targets s };
  }
