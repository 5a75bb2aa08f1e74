-- Visited nodes that a path cannot come to are irrelevant to it: it is a path with them and without.
-- Main statements: path_forget, path_remember, path_stays.
-- Used by: runs after the usual prefix (AfterPrefix).
-- Idea: induction on the choices, with the nodes that the path itself has visited in front.
use Rattle.std.specs.Bool.{Decides}
use Rattle.std.specs.Prelude.{slice_get}
use Rattle.std.proofs.Common.{◌≡◌, ◌++◌, ◌∷◌, ℕ, Bool, List, Some, [], subst, sym}
use Rattle.ordered_reach.specs.Paths.{IsPath}
use Rattle.ordered_reach.proofs.lists.Elements.{Contains_In, In, In_Contains, In_append_cases, In_append_left}

-- a path from a node of a closed set ends in the set
pub path_stays : {N : Type 0} (edges : N → List N) (Q : N → Type 0)
    → ((p q : N) (c : ℕ) → Q p → slice_get (edges p) c ≡ Some q → Q q) → (cs : List ℕ) (held : List N) (r q : N)
    → Q r → IsPath edges held r cs q → Q q
path_stays edges Q closed [] held r q k p = subst Q (sym p.1) k
path_stays edges Q closed (c ∷ cs) held r q k p =
    path_stays edges Q closed cs (r ∷ held) p.1.0 q (closed r p.1.0 c k p.1.1) p.1.2

-- a closed set of nodes that has none of the further ones
module _ {N : Type 0} {eq : N → N → Bool} (dec : (a b : N) → Decides (eq a b) (a ≡ b)) (edges : N → List N)
    (Q : N → Type 0)
    (closed : (p q : N) (c : ℕ) → Q p → slice_get (edges p) c ≡ Some q → Q q) (further : List N)
    (apart : (p : N) → Q p → In p further → ⊥) where
  pub path_forget : (cs : List ℕ) (hs : List N) (r q : N) → Q r → IsPath edges (hs ++ further) r cs q
      → IsPath edges hs r cs q
  path_forget [] hs r q k p =
      (λ w. p.0 (In_Contains dec (hs ++ further) r (In_append_left r hs further (Contains_In dec hs r w))), p.1)
  path_forget (c ∷ cs) hs r q k p = (
    λ w. p.0 (In_Contains dec (hs ++ further) r (In_append_left r hs further (Contains_In dec hs r w))),
    (p.1.0, p.1.1, path_forget cs (r ∷ hs) p.1.0 q (closed r p.1.0 c k p.1.1) p.1.2),
  )

  pub path_remember : (cs : List ℕ) (hs : List N) (r q : N) → Q r → IsPath edges hs r cs q
      → IsPath edges (hs ++ further) r cs q
  path_remember [] hs r q k p = (
    λ w. In_append_cases r hs further (Contains_In dec (hs ++ further) r w) (λ l. p.0 (In_Contains dec hs r l))
        (λ l. apart r k l),
    p.1,
  )
  path_remember (c ∷ cs) hs r q k p = (
    λ w. In_append_cases r hs further (Contains_In dec (hs ++ further) r w) (λ l. p.0 (In_Contains dec hs r l))
        (λ l. apart r k l),
    (p.1.0, p.1.1, path_remember cs (r ∷ hs) p.1.0 q (closed r p.1.0 c k p.1.1) p.1.2),
  )
