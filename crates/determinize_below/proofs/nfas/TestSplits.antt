-- Classes of bytes that are split by a test, byte by byte.
-- Main statements: split_begin, split_kept, split_moved, split_all.
-- Used by: `split_classes`.
-- Idea: the first byte of a class that differs from the least one is the least byte of a new class.
use Rattle.std.specs.Option.{unwrap_or}
use Rattle.std.proofs.lemmas.List.{length-replicate}
use Rattle.determinize_below.specs.Private.Partition.{AreLeastBelow, ArePartition, AreSplit, AreTogether}
use Rattle.determinize_below.proofs.Common.{◌≡◌, ◌≢◌, ℕ, ◌+◌, ◌<◌, ◌≤◌, Bool, List, length, arith, by_cases, cases_lt}
use Rattle.determinize_below.proofs.Common.{get_or, get_or-set_other, get_or-set_same, length-set, None, Option, refl, set}
use Rattle.determinize_below.proofs.Common.{Some, sym, ◌∙◌, below_more, cases_eq, ap, replicate}
use Rattle.determinize_below.proofs.nfas.Partitions.{together}
use Rattle.determinize_below.proofs.Written.{replicated}
use Rattle.ordered_reach.proofs.Cases.{by_option, some_injective}

-- the classes of the first n bytes are split by a test, and `others` has for each class the first byte so far
-- on which the test differs from that on the least byte
pub record IsSplitBelow (f : ℕ → Bool) (old : List ℕ) (n : ℕ) (new : List ℕ) (others : List (Option ℕ)) : Type 0 where
  pub split : AreLeastBelow n (AreTogether old f) new
  pub rest : (b : ℕ) → n ≤ b → get_or new b 0 ≡ get_or old b 0
  pub room : length others ≡ 256
  pub parted : (r o : ℕ) → get_or others r None ≡ Some o → (o < n) × (get_or old o 0 ≡ r) × (f o ≢ f r)
  pub noted : (b : ℕ) → b < n → f b ≢ f (get_or old b 0) → get_or others (get_or old b 0) None ≡ Some (get_or new b 0)

-- no byte is split
pub split_begin : (f : ℕ → Bool) (old : List ℕ) → ArePartition old → IsSplitBelow f old 0 old (replicate 256 None)
split_begin f old p = record {
  split = record {
    count = p.count;
    alike = λ b h. absurd (omega (arith, h));
    first = λ b c h. absurd (omega (arith, h));
  };
  rest = λ b h. refl;
  room = length-replicate {A = Option ℕ} 256 None;
  parted = λ r o e. absurd (let none = replicated {X = Option ℕ} 256 r None in cc);
  noted = λ b h. absurd (omega (arith, h));
}

-- all bytes are
pub split_all : (f : ℕ → Bool) (old : List ℕ) (n : ℕ) (new : List ℕ) (others : List (Option ℕ)) → n ≡ 256
    → IsSplitBelow f old n new others → AreSplit f old new
split_all f old n new others all s = rw all at s.split

-- two tests that differ from a third are equal
other_side : (x y z : Bool) → x ≢ z → y ≢ z → x ≡ y
other_side x y z d e = grind arith

module _ (f : ℕ → Bool) (old : List ℕ) (p : ArePartition old) (n : ℕ) (is_byte : n < 256) (new : List ℕ)
    (others : List (Option ℕ)) (s : IsSplitBelow f old n new others) where
  -- the least byte of the class of the next byte
  abbrev least : ℕ
  least = get_or old n 0

  -- the next byte stays in its class
  pub split_kept : f n ≡ f least → IsSplitBelow f old (n + 1) new others
  split_kept same = record {
    split = record {
      count = s.split.count;
      alike = below_more _ _ s.split.alike
          (rw (s.rest n (omega arith)) record { class = p.alike n is_byte; value = sym same });
      first = λ b c h k t. below_more (λ b. (c : ℕ) → c ≤ b → AreTogether old f c b → get_or new b 0 ≤ c) n
          (λ b h c k t. s.split.first b c h k t)
          (λ c k t. rw (s.rest n (omega arith)) (p.first n c is_byte k t.class)) b h c k t;
    };
    rest = λ b h. s.rest b (omega arith);
    room = s.room;
    parted = λ r o e. (omega (arith, (s.parted r o e).0), (s.parted r o e).1, (s.parted r o e).2);
    noted = below_more _ _ s.noted (λ d. absurd (d same));
  }

  -- or it goes into the class of the first byte of its class that differs from the least one
  module _ (o : ℕ) (is : o ≡ unwrap_or (get_or others least None) n) (differs : f n ≢ f least) where
    in_bytes : least < 256
    in_bytes = omega (arith, p.first n n is_byte (omega arith) refl)

    found : (o ≤ n) × (get_or old o 0 ≡ least) × (f o ≢ f least)
    found = by_option (get_or others least None)
        (λ e. let here : o ≡ n = rw e at is in (omega arith, rw here refl, rw here differs))
        (λ a e. let here : o ≡ a = rw e at is in
        let parted = s.parted least a e in (omega (arith, here, parted.0), rw here parted.1, rw here parted.2))

    known : (c : ℕ) → c < n → get_or old c 0 ≡ least → f c ≢ f least → o ≡ get_or new c 0
    known c h e d = rw (rw e at (s.noted c h (rw e d))) at is

    here : get_or (set new n o) n 0 ≡ o
    here = get_or-set_same new n o 0 (omega (arith, s.split.count))

    before : (b : ℕ) → b < n → get_or (set new n o) b 0 ≡ get_or new b 0
    before b h = let ne : b ≢ n = omega arith in get_or-set_other new n b o 0 ne

    is_noted : get_or (set others least (Some o)) least None ≡ Some o
    is_noted = get_or-set_same others least (Some o) None (omega (arith, s.room, in_bytes))

    pub split_moved : IsSplitBelow f old (n + 1) (set new n o) (set others least (Some o))
    split_moved = record {
      split = record {
        count = length-set new n o ∙ s.split.count;
        alike = below_more _ _ (λ b h. rw (before b h) (s.split.alike b h))
            (rw here record { class = found.1; value = other_side _ _ _ found.2 differs });
        first = λ b c h k t. below_more (λ b. (c : ℕ) → c ≤ b → AreTogether old f c b → get_or (set new n o) b 0 ≤ c) n
            (λ b h c k t. rw (before b h) (s.split.first b c h k t))
            (λ c k t. rw here (by_cases (cases_lt c n)
            (λ l. omega (
              arith,
              known c l t.class (rw t.value differs),
              s.split.first c c l (omega arith) ((together old f).self c),
            ))
            (λ l. omega (arith, found.0)))) b h c k t;
      };
      rest = λ b h. let ne : b ≢ n = omega arith in get_or-set_other new n b o 0 ne ∙ s.rest b (omega arith);
      room = length-set others least (Some o) ∙ s.room;
      parted = λ r a e. by_cases (cases_eq r least)
          (λ same. let made : o ≡ a = some_injective o a (sym is_noted ∙ rw same at e) in
          (omega (arith, found.0), rw (← made, same) found.1, rw (← made, same) found.2))
          (λ ne. let parted = s.parted r a (sym (get_or-set_other others least r (Some o) None ne) ∙ e) in
          (omega (arith, parted.0), parted.1, parted.2));
      noted = below_more _ _
          (λ b h d. by_cases (cases_eq (get_or old b 0) least)
          (λ same. rw (same, before b h) (is_noted ∙ ap Some (known b h same (rw same at d))))
          (λ ne. get_or-set_other others least (get_or old b 0) (Some o) None ne ∙ s.noted b h d
          ∙ ap Some (sym (before b h))))
          (λ d. is_noted ∙ ap Some (sym here));
    }
