-- Bytes that are sorted into classes one after another.
-- Main statements: sorted_held, sorted_new, sorted_all.
-- Used by: `NFA::byte_classes`.
-- Idea: a byte joins the class of an earlier byte that is alike, or begins a class.
use Rattle.std.specs.Prelude.{◌↔◌}
use Rattle.determinize_below.specs.ByteClasses.{AreClasses}
use Rattle.determinize_below.proofs.Written.{set_more}
use Rattle.determinize_below.proofs.Common.{◌≡◌, ℕ, ◌+◌, ◌<◌, ◌≤◌, ◌≢◌, List, length, get_or, take, refl, sym, ◌∙◌, arith, get_or-set_other, get_or-set_same, get_or-take, length-set, length-take-le, AreAlike, Nfa, AreSorted, set}

module _ (nfa : Nfa) where
  alike-self : (b : ℕ) → AreAlike nfa b b
  alike-self b = record { targets = λ s. refl; tests = grind arith }

  alike-swap : (b c : ℕ) → AreAlike nfa b c → AreAlike nfa c b
  alike-swap b c e = record { targets = λ s. sym (e.targets s); tests = grind (arith, e.tests) }

  alike-chain : (a b c : ℕ) → AreAlike nfa a b → AreAlike nfa b c → AreAlike nfa a c
  alike-chain a b c e f = record { targets = λ s. e.targets s ∙ f.targets s; tests = grind (arith, e.tests, f.tests) }

  module _ (n len : ℕ) (B F : List ℕ) (s : AreSorted nfa n len B F) (is_byte : n < 256) where
    in_bytes : n < length B
    in_bytes = omega (arith, s.count)

    in_firsts : len < length F
    in_firsts = omega (arith, s.room, s.few)

    other_first : (k : ℕ) → k < len → get_or (set F len n) k 0 ≡ get_or F k 0
    other_first k h = let ne : k ≢ len = omega arith in get_or-set_other F len k n 0 ne

    -- two bytes are in one class exactly if they are alike, the next one too
    same_more : (k : ℕ) → ((b : ℕ) → b < n → (get_or B b 0 ≡ k) ↔ AreAlike nfa b n) → (b : ℕ) → b < n + 1
        → (c : ℕ) → c < n + 1 → (get_or (set B n k) b 0 ≡ get_or (set B n k) c 0) ↔ AreAlike nfa b c
    same_more k h = set_more
        (λ b j. (c : ℕ) → c < n + 1 → (j ≡ get_or (set B n k) c 0) ↔ AreAlike nfa b c) 0 B n k in_bytes
        (λ b l. set_more (λ c i. (get_or B b 0 ≡ i) ↔ AreAlike nfa b c) 0 B n k in_bytes (s.same b l) (h b l))
        (set_more (λ c i. (k ≡ i) ↔ AreAlike nfa n c) 0 B n k in_bytes
        (λ c l. (λ e. alike-swap c n ((h c l).0 (sym e)), λ a. sym ((h c l).1 (alike-swap n c a))))
        (λ e. alike-self n, λ a. refl))

    -- the byte goes into the class of an earlier byte
    pub sorted_held : (k m : ℕ) → m < n → get_or B m 0 ≡ k → AreAlike nfa m n
        → AreSorted nfa (n + 1) len (set B n k) F
    sorted_held k m l own a = record {
      few = omega (arith, s.few);
      count = length-set B n k ∙ s.count;
      room = s.room;
      within = set_more (λ b j. j < len) 0 B n k in_bytes s.within (rw own at (s.within m l));
      bytes = λ j h. omega (arith, s.bytes j h);
      own = λ j h. let ne : get_or F j 0 ≢ n = omega (arith, s.bytes j h) in
          get_or-set_other B n (get_or F j 0) k 0 ne ∙ s.own j h;
      least = set_more (λ b j. get_or F j 0 ≤ b) 0 B n k in_bytes s.least
          (omega (arith, rw own at (s.least m l)));
      ascend = s.ascend;
      same = same_more k (λ b h. (
        λ e. alike-chain b m n ((s.same b h m l).0 (e ∙ sym own)) a,
        λ e. (s.same b h m l).1 (alike-chain b n m e (alike-swap m n a)) ∙ own,
      ));
    }

    -- the byte is the first of a new class
    pub sorted_new : ((c : ℕ) → c < n → AreAlike nfa c n → ⊥)
        → AreSorted nfa (n + 1) (len + 1) (set B n len) (set F len n)
    sorted_new apart = record {
      few = omega (arith, s.few);
      count = length-set B n len ∙ s.count;
      room = length-set F len n ∙ s.room;
      within = set_more (λ b j. j < len + 1) 0 B n len in_bytes (λ b h. omega (arith, s.within b h)) (omega arith);
      bytes = set_more (λ k f. f < n + 1) 0 F len n in_firsts (λ k h. omega (arith, s.bytes k h)) (omega arith);
      own = set_more (λ k f. get_or (set B n len) f 0 ≡ k) 0 F len n in_firsts
          (λ k h. let ne : get_or F k 0 ≢ n = omega (arith, s.bytes k h) in
          get_or-set_other B n (get_or F k 0) len 0 ne ∙ s.own k h)
          (get_or-set_same B n len 0 in_bytes);
      least = set_more (λ b j. get_or (set F len n) j 0 ≤ b) 0 B n len in_bytes
          (λ b h. rw (other_first (get_or B b 0) (s.within b h)) (s.least b h))
          (rw (get_or-set_same F len n 0 in_firsts) (omega arith));
      ascend = λ j k l h. set_more (λ k f. (j : ℕ) → j < k → get_or (set F len n) j 0 < f) 0 F len n in_firsts
          (λ k h j l. rw (other_first j (omega arith)) (s.ascend j k l h))
          (λ j l. rw (other_first j l) (s.bytes j l)) k h j l;
      same = same_more len (λ b h. (
        λ e. absurd (omega (arith, s.within b h)),
        λ e. absurd (apart b h e),
      ));
    }

-- where all bytes are sorted
pub sorted_all : (nfa : Nfa) (n len : ℕ) (B F : List ℕ) → AreSorted nfa n len B F → n ≡ 256
    → AreClasses record { of_bytes = B; firsts = take len F }
sorted_all nfa n len B F s all =
    let size : length (take len F) ≡ len = length-take-le len F (omega (arith, s.few, s.room)) in
    record {
      count = s.count;
      within = λ b h. omega (arith, size, s.within b (omega arith));
      bytes = λ k h. let l : k < len = omega arith in rw (get_or-take len F k 0 l) (omega (arith, s.bytes k l));
      own = λ k h. let l : k < len = omega arith in rw (get_or-take len F k 0 l) (s.own k l);
      least = λ b h. let l : b < n = omega arith in
          rw (get_or-take len F (get_or B b 0) 0 (s.within b l)) (s.least b l);
      ascend = λ j k i h. let l : k < len = omega arith in
          rw (get_or-take len F j 0 (omega arith), get_or-take len F k 0 l) (s.ascend j k i l);
      few = omega (arith, size, s.few);
    }
