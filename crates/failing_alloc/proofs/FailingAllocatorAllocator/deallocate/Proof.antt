-- The gate counts the block, and the inner allocator frees it. Assumes `Logic`.
use Rattle.std.proofs.Common.{◌≡◌, ℕ, ◌^◌, ◌<◌, List, [], ◌∷◌, refl, w64, Bor}
use Rattle.std.proofs.raw_atomic.Walks.{proved}
use seplogic.Ra.Ura.{Ura}
use mir.Syntax.{Ty, Fn}
use mir.Val.{Val, vunit, vint, vptr}
use mir.MapTy.{inst_fn}
use base.Logic.{SProp, ent, fst∗, never}
use base.Fml.{Fml, Lft, Share, ftrue, fsep, flft}
use prog.Memory.{size, align, capped}
use prog.Model.{Model}
use prog.Wp.{WpFn}
use types.Logic.{Logic, sem}
use contract.BorrowLft.{◌⊑◌, ⊑_trans}
use contract.Monad.{fact}
use contract.Running.{Running, MachineTables, tables}
use types.Run.{stop, fld, addr, of_opd, unit_lit, no_more, and_then, returns, enter}
use types.ByLocal.{alloc_all, pass_all, free_all, look_at, get, through, sets, lands_as}
use types.Kit.{‵, raw, ◌⊛◌, later, given as where_true, prop, ◌$◌, ◌∵◌, !, qed, move, keep, use1, use2, use3, split, split3, join, learn, regoal, fsplit, fjoin, feq_i, suffices, await, done}
use denote.Exit.{yes}
use denote.RattleType.{owns}
use denote.Ref.{shr_vals}
use denote.Memory.{hidden_shr}
use denote.Plain.{uint_vals, uint_Tells}
use denote.RawPtr.{Ptr, RawPtr, block_ptr, null_ptr, ptr_val, room_for, in_a_block, rawptr_vals, rawptr_Tells}
use denote.Signature.{Slot, plain, types_at}
use denote.Steps.{heard, nothing}
use denote.Triple.Call.{calls_at}
use denote.Triple.Clauses.{Ended, Clauses}
use denote.Triple.Statement.{Triple}
use denote.Triple.Table.{framed}
use denote.Triple.Walked.{Stays, stay_dropped, walk_of, ends_at, Goes-dropped}
use Rattle.std.proofs.alloc.Calls.{Al, seen, token, gives_key, Gives, at_gives, Gives-goes, Gives-Gives}
use Rattle.failing_alloc.proofs.FailingCalls.{given, number, self, Whole, inner_at, gate_at, both_fields, Backs, at_backs, Backs-goes, Backs-gives}
use Rattle.failing_alloc.proofs.Gate.take_back.Symbol as noted
use Rattle.failing_alloc.proofs.Gate.take_back.Met as noted_met
use Rattle.failing_alloc.specs.contracts.Gate as gate
use Rattle.failing_alloc.specs.contracts.FailingAllocatorAllocator.deallocate as f
use Rattle.failing_alloc.specs.contracts.FailingAllocatorAllocator.deallocate.Key as key
use Rattle.failing_alloc.proofs.FailingAllocatorAllocator.deallocate.Statement.{statement}
use Rattle.failing_alloc.proofs.FailingAllocatorAllocator.deallocate.Code as code

abbrev pointer : Slot 2
pointer = plain (λ _. RawPtr)

module _ (Z : Al) where
  abbrev here : Fn
  here = inst_fn (given Z) code.function

  abbrev ended : Ended
  ended = f.ended Z.row Z.g Z.d Z.drops

  abbrev stayed : Stays ended.signature.params ended.kept
  stayed = (
    stay_dropped (self Z) yes,
    (
      stay_dropped pointer yes,
      (stay_dropped number yes, (stay_dropped number yes, tt)),
    ),
  )

module _ (Z : Al) {M : Type 1} {𝓤 : Ura M} (𝓛 : Logic 𝓤) (𝓜 : Model 𝓤 𝓛.H) (𝓡 : Running 𝓤 𝓛.H 𝓜) where
  open 𝓛 use {H}

  abbrev 𝓣 : MachineTables 𝓤 H 𝓜
  𝓣 = tables 𝓤 H 𝓜 𝓡 𝓡.env

  abbrev held : Clauses 𝓤 (ended Z)
  held = f.clauses Z.row Z.g Z.d Z.drops 𝓛 𝓜.mem 𝓡.returns

  module _ (gives : Triple 𝓤 (𝓣.C (gives_key Z)) (Gives Z 𝓛 𝓜.mem 𝓡.returns))
      (notes : Triple 𝓤 (𝓣.C noted.name) (Backs 𝓛 𝓜.mem 𝓡.returns))
      (κ κ' : Lft) (q q' : Share) (inn : κ ⊑ κ') (r : Bor (Whole Z).Denot) (n a : ℕ) (τ : Ty) where
    abbrev y : Ptr → (walk_of 𝓛 (ended Z) (stayed Z) held).Ghost
    y x = (
      (
        (κ, (κ', tt)),
        (q, (q', tt)),
        (inn, tt),
        (r, (x, (n, (a, tt)))),
        (shr_vals r, (rawptr_vals x, (vint w64 n ∷ [], (vint w64 a ∷ [], tt)))),
      ),
      τ,
    )

    abbrev runs_at : Ptr → SProp 𝓤
    runs_at x = WpFn 𝓤 H 𝓣.C 𝓣.Λ (here Z) (vptr r.ref_ptr.0 r.ref_ptr.1 ∷ ptr_val x ∷ vint w64 n ∷ vint w64 a ∷ [])
        ((walk_of 𝓛 (ended Z) (stayed Z) held).post (y x))

    abbrev Owned : Ptr → Fml
    Owned x = fsep (room_for τ x) (token Z r.now.inner τ x)

    walk : n < 2 ^ 64 → a < 2 ^ 64 → (x : Ptr) → ent 𝓤 ((walk_of 𝓛 (ended Z) (stayed Z) held).pre (y x)) (runs_at x)
    walk fits_n fits_a x =
        let h = r.now in let p = r.ref_ptr in
        let Sizes : Type 0 = (capped (size τ) ≡ n) × (capped (align τ) ≡ a) in
        let Give = Gives Z 𝓛 𝓜.mem 𝓡.returns in
        let Note = Backs 𝓛 𝓜.mem 𝓡.returns in let w = at_backs 𝓛 𝓜.mem 𝓡.returns κ q h.gate (gate_at Z p) in
        qed 𝓛 (((‵ (flft κ q) ⊛ ‵ (flft κ' q') ⊛ ‵ ftrue) ⊛ ‵
        (owns (types_at (ended Z).signature.params (y x).0.0) (y x).0.3 (y x).0.4))
        ∷ (raw (fact 𝓤 (κ' ⊑ Z.row.lives)) ⊛ raw (fact 𝓤 Sizes) ⊛ ‵ (Owned x)) ∷ []) ∵
        move ! (1 ∷ []) $ split3 ! $ heard ! (κ' ⊑ Z.row.lives) (λ lives. heard ! Sizes (λ sizes.
        in_a_block ! x Owned (fst∗ 𝓤 (never 𝓤) (sem 𝓛 (token Z h.inner τ null_ptr))) (λ b o e.
        move ! (1 ∷ []) $ split ! $ split ! $ move ! (2 ∷ []) $ fsplit ! $ fsplit ! $ move ! (1 ∷ []) $
        use1 𝓛 (‵ (seen Z κ (inner_at Z p) h.inner) ⊛ ‵
        (hidden_shr gate.the_row κ h.gate (gate_at Z p).0 (gate_at Z p).1)) (both_fields Z 𝓛 κ h p) $ split ! $
        regoal ! (λ (x : Ptr). prop (runs_at x)) e refl $
        move ! (6 ∷ []) $ fsplit ! $ keep ! (3 ∷ 6 ∷ 2 ∷ 0 ∷ 1 ∷ 7 ∷ []) $
        -- [the gate; the token; the inner handle; the room; the right to free it; the other token]
        enter ! 𝓣.C 𝓣.Λ (here Z) _ _ $
        alloc_all ! (λ l. pass_all ! refl (
          (tt, tt),
          ((tt, tt), ((tt, record { fits = fits_n }), ((tt, record { fits = fits_a }), tt))),
        ) $
        sets ! (addr ! (through ! refl (fld ! refl (stop !)))) refl (tt, tt) $
        use2 𝓛 (raw (Note.pre w)) (Backs-goes 𝓛 𝓜.mem 𝓡.returns κ q h.gate (gate_at Z p)) $
        calls_at ! (framed 𝓤 H 𝓜 𝓣) Note notes w (and_then ! (get ! refl) (no_more !)) (λ u.
        use1 𝓛 (later (where_true (u ≡ vunit) (‵ (flft κ q))))
        (Backs-gives 𝓛 𝓜.mem 𝓡.returns κ q h.gate (gate_at Z p) u) $ await ! tt $ learn ! (λ noted_unit.
        lands_as ! noted_unit refl (tt, tt) $
        sets ! (addr ! (through ! refl (fld ! refl (stop !)))) refl (tt, tt) $
        -- [the room; the right to free it; the inner handle and the token; the other token]
        move ! (1 ∷ 0 ∷ []) $ join ! $ move ! (1 ∷ 2 ∷ 0 ∷ []) $
        let z : Give.Ghost = at_gives Z 𝓛 𝓜.mem 𝓡.returns κ q (inner_at Z p) h.inner b o n a τ in
        use3 𝓛 (raw (Give.pre z)) (Gives-goes Z 𝓛 𝓜.mem 𝓡.returns κ q (inner_at Z p) h.inner
        (⊑_trans κ κ' Z.row.lives inn lives) b o n a τ sizes.0 sizes.1 fits_n fits_a) $
        calls_at ! (framed 𝓤 H 𝓜 𝓣) Give gives z
        (and_then ! (get ! refl) (and_then ! (get ! refl)
        (and_then ! (get ! refl) (and_then ! (get ! refl) (no_more !))))) (λ v.
        use1 𝓛 (later (where_true (v ≡ vunit) (‵ (flft κ q))))
        (Gives-Gives Z 𝓛 𝓜.mem 𝓡.returns κ q (inner_at Z p) h.inner b o n a τ v) $ await ! tt $ learn ! (λ is_unit.
        lands_as ! is_unit refl (tt, tt) $ sets ! (of_opd ! (unit_lit !)) refl (tt, tt) $ returns ! (look_at ! 0 refl) $
        free_all ! refl $
        suffices ! _ (ends_at 𝓛 (ended Z) (stayed Z) held (y (block_ptr b o)) vunit tt (tt, (tt, (tt, (tt, tt))))
        (tt, (tt, (tt, (tt, tt))))) $
        nothing ! $ feq_i ! (List Val) (vunit ∷ []) _ refl $ nothing ! $ nothing ! $ fjoin ! $ nothing ! $ fjoin ! $
        nothing ! $ fjoin ! $ nothing ! $ fjoin ! $ join ! $
        move ! (2 ∷ 3 ∷ []) $ join ! $ join ! $ done !))))))))

pub deallocate_spec : {M : Type 1} → statement M
deallocate_spec 𝓤 𝓛 𝓜 𝓡 wired row laws g d drops met _ =
    let Z : Al = record { row = row; laws = laws; g = g; d = d; drops = drops } in
    let numbers = Goes-dropped 𝓛 2 number yes (λ κs x w. refl) in
    proved 𝓛 (ended Z) (stayed Z) (held Z 𝓛 𝓜 𝓡) 𝓜 𝓡 (
      Goes-dropped 𝓛 2 (self Z) yes (λ κs x w. refl),
      (Goes-dropped 𝓛 2 pointer yes (λ κs x w. refl), (numbers, (numbers, tt))),
    )
    (key.name (given Z)) (here Z) (code.unfolded 𝓤 𝓛.H 𝓜 𝓡 wired (row, tt) d drops)
    (λ κs. (shr_vals, (rawptr_vals, (uint_vals w64, (uint_vals w64, tt)))))
    (λ κs. ((λ r vs s. s.0), (rawptr_Tells, (uint_Tells w64, (uint_Tells w64, tt)))))
    (λ κs qs bounds a τ are. walk Z 𝓛 𝓜 𝓡 (met.deallocate drops)
    (noted_met.met 𝓤 𝓛 𝓜 𝓡 (code.calls-failing_alloc::Gate::take_back 𝓡.env wired)) κs.0 κs.1.0 qs.0 qs.1.0 bounds.0
    a.0 a.1.1.0 a.1.1.1.0 τ are.1.1.0.1 are.1.1.1.0.1 a.1.0)
