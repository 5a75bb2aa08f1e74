-- What both proofs of `FailingAllocator` share: their parameters, and the results of the two calls of the gate.
-- Main statements: both_fields, Asks-goes, Asks-gives, Backs-goes, Backs-gives.
-- Used by: `allocate` and `deallocate`.
-- Idea: a `&FailingAllocator` is a `&` to each of its fields. Assumes `Logic`.
use Rattle.std.proofs.Common.{◌≡◌, ℕ, ◌+◌, Bool, List, [], ◌∷◌, refl, ap}
use seplogic.Ra.Ura.{Ura}
use mir.Syntax.{Args, a_type, dnil, dcons}
use mir.Val.{Val, vbool, vptr, vunit}
use base.Logic.{SProp, ent, sep, ex, guard, id⊢}
use base.Fml.{Lft, Share, ftrue, fsep, flft}
use prog.Memory.{Memory, size, align, up}
use prog.Routine.{Routine}
use types.Logic.{Logic, sem}
use contract.Monad.{Fun}
use types.Kit.{‵, raw, ◌⊛◌, some, later, ◌$◌, ◌∵◌, !, qed, move, keep, use1, split, join, pick, fsplit, fjoin, feq_i, feq_l, check, show, await, updating, now as at_once, done}
use denote.RattleType.{RattleType}
use denote.Memory.{hidden_shr}
use denote.Param.{bounded, param}
use denote.Opens.{unhide}
use denote.Laws.{shows}
use denote.Plain.{bool_Tells}
use denote.Builtin.{bool, unit, usize, RefOf}
use denote.Signature.{Slot, plain}
use denote.Steps.{nothing, only, facts}
use denote.Triple.Statement.{Contract}
use denote.Triple.Spec.{triple_of}
use Rattle.std.proofs.alloc.Calls.{Al, α, seen}
use Rattle.failing_alloc.specs.declared.Gate.{Gate}
use Rattle.failing_alloc.specs.contracts.Gate as gate
use Rattle.failing_alloc.specs.contracts.Gate.fails as fails
use Rattle.failing_alloc.specs.contracts.Gate.take_back as take_back
use Rattle.failing_alloc.specs.contracts.FailingAllocator as whole

-- a size or an alignment
abbrev pub number : Slot 2
number = plain (λ _. usize)

module _ (Z : Al) where
  abbrev pub given : Args
  given = bounded (a_type ∷ []) (Z.row, tt) (dcons Z.d (dcons Z.drops dnil))

  abbrev pub Whole : RattleType
  Whole = whole.the_row (param 0 Z.row)

  -- the `&FailingAllocator`
  abbrev pub self : Slot 2
  self = RefOf (0 ∷ []) tt (plain (λ _. Whole)) (λ _. tt)

  -- the addresses of the fields of a `FailingAllocator` at an address
  abbrev pub inner_at : ℕ × ℕ → ℕ × ℕ
  inner_at p = (p.0, p.1 + up (align (α Z)) 0)

  abbrev pub gate_at : ℕ × ℕ → ℕ × ℕ
  gate_at p = (p.0, p.1 + up 8 (up (align (α Z)) 0 + size (α Z)))

  pub both_fields : {M : Type 1} {𝓤 : Ura M} (𝓛 : Logic 𝓤) (κ : Lft) (h : Whole.Denot) (p : ℕ × ℕ)
      → ent 𝓤 (sem 𝓛 (hidden_shr Whole κ h p.0 p.1))
      (sep 𝓤 (sem 𝓛 (seen Z κ (inner_at p) h.inner))
      (sem 𝓛 (hidden_shr gate.the_row κ h.gate (gate_at p).0 (gate_at p).1)))
  both_fields {𝓤 = 𝓤} 𝓛 κ h p =
      qed 𝓛 (‵ (hidden_shr Whole κ h p.0 p.1) ∷ []) ∵ unhide ! $ fsplit ! $ fsplit ! $
      use1 𝓛 (‵ (seen Z κ (inner_at p) h.inner)) (id⊢ 𝓤 _) $
      move ! (1 ∷ []) $ fsplit ! $ keep ! (2 ∷ 0 ∷ []) $ done !

-- A `&Gate` is passed to a call of one of its methods, which returns only the token.
module _ {M : Type 1} {𝓤 : Ura M} (𝓛 : Logic 𝓤) (at_mem : Memory → SProp 𝓤) (run : Routine → Fun 𝓤) where
  open 𝓛 use {H, A}

  abbrev pub Asks : Contract 𝓤
  Asks = triple_of 𝓛 fails.signature (fails.spec 𝓛 at_mem run)

  abbrev pub Backs : Contract 𝓤
  Backs = triple_of 𝓛 take_back.signature (take_back.spec 𝓛 at_mem run)

  module _ (κ : Lft) (q : Share) (x : Gate) (c : ℕ × ℕ) where
    abbrev pub at_asks : Asks.Ghost
    at_asks = (((κ, tt), (q, tt), tt, (record { ref_ptr = c; now = x }, tt), (vptr c.0 c.1 ∷ [], tt)), tt)

    abbrev pub at_backs : Backs.Ghost
    at_backs = at_asks

    pub Asks-goes : ent 𝓤 (sep 𝓤 (sem 𝓛 (hidden_shr gate.the_row κ x c.0 c.1)) (A.lft κ q)) (Asks.pre at_asks)
    Asks-goes =
        qed 𝓛 (‵ (hidden_shr gate.the_row κ x c.0 c.1) ∷ ‵ (flft κ q) ∷ []) ∵ feq_i ! (List Val)
        (vptr c.0 c.1 ∷ []) _ refl $ fjoin ! $
        nothing ! $ move ! (1 ∷ 0 ∷ []) $ fjoin ! $ nothing ! $ move ! (2 ∷ 0 ∷ []) $ join ! $ move ! (0 ∷ 1 ∷ []) $
        join ! $
        nothing ! $ move ! (1 ∷ 0 ∷ []) $ join ! $ done !

    pub Backs-goes : ent 𝓤 (sep 𝓤 (sem 𝓛 (hidden_shr gate.the_row κ x c.0 c.1)) (A.lft κ q)) (Backs.pre at_backs)
    Backs-goes = Asks-goes

    -- a flag and the token are returned
    pub Asks-gives : (v : Val) → ent 𝓤 (Asks.post at_asks v)
        (H.⇛ (ex 𝓤 (λ (y : Bool). guard 𝓤 (v ≡ vbool y) (A.lft κ q))))
    Asks-gives v =
        qed 𝓛 (raw (Asks.post at_asks v) ∷ []) ∵ updating ! $
        use1 𝓛 (later (some (λ (y : Bool). ((‵ (flft κ q) ⊛ ‵ ftrue) ⊛ ‵ (bool.own_val y (v ∷ []))) ⊛ some
        (λ (ws : Unit {0} × Unit {0}). ‵ (fsep ftrue ftrue) ⊛ ‵ ftrue)))) (id⊢ 𝓤 _) $
        await ! tt $ pick ! (λ y. split ! $ split ! $ move ! (1 ∷ []) $ facts ! bool _ (shows 𝓛 bool) y (v ∷ []) (λ is.
        split ! $ at_once ! $ show ! (λ (z : Bool). guard 𝓤 (v ≡ vbool z) (A.lft κ q)) y $
        check ! (ap only (bool_Tells y (v ∷ []) is)) $ keep ! (0 ∷ []) $ done !))

    -- the token is returned
    pub Backs-gives : (v : Val) → ent 𝓤 (Backs.post at_backs v) (H.⇛ (guard 𝓤 (v ≡ vunit) (A.lft κ q)))
    Backs-gives v =
        qed 𝓛 (raw (Backs.post at_backs v) ∷ []) ∵ updating ! $
        use1 𝓛 (later (some (λ (r : Unit {0}). ((‵ (flft κ q) ⊛ ‵ ftrue) ⊛ ‵ (unit.own_val r (v ∷ []))) ⊛ some
        (λ (ws : Unit {0} × Unit {0}). ‵ (fsep ftrue ftrue) ⊛ ‵ ftrue)))) (id⊢ 𝓤 _) $ await ! tt $ pick ! (λ r.
        split ! $ split ! $ move ! (1 ∷ []) $ feq_l !
        (λ e. split ! $ at_once ! $ check ! (ap only e) $ keep ! (0 ∷ []) $ done !))
