-- Returns `Err` if the gate fails the request, and otherwise the result of the inner allocator.
-- Assumes `Logic`.
use Rattle.std.proofs.Common.{◌≡◌, ℕ, ◌^◌, ◌<◌, Bool, true, false, [], ◌∷◌, Ok, Err, refl, w64, Bor}
use Rattle.std.proofs.raw_atomic.Walks.{proved}
use seplogic.Ra.Ura.{Ura}
use mir.Syntax.{Ty, Fn}
use mir.Val.{Val, vbool, vint, vptr}
use mir.MapTy.{inst_fn}
use base.Logic.{SProp, ent}
use base.Fml.{Lft, Share, ftrue, froom, flft}
use prog.Memory.{size, align, capped}
use prog.Model.{Model}
use prog.Wp.{WpFn}
use types.Logic.{Logic}
use contract.BorrowLft.{◌⊑◌, ⊑_trans}
use contract.Monad.{fact}
use contract.Running.{Running, MachineTables, tables}
use types.Run.{stop, fld, addr, lit, no_more, and_then, first, branches, skips, exec, returns, returns_within, enter}
use types.Part.{agg}
use types.ByLocal.{alloc_all, pass_all, free_all, look_at, get, through, sets, lands_as, env}
use types.Kit.{Item, Sq, ‵, raw, ◌⊛◌, some, later, given as where_true, prop, at_ret, ◌$◌, ◌∵◌, !, qed, move, keep, use0, use1, use2, split, join, pick, learn, fsplit, fjoin, suffices, await, done}
use denote.Exit.{yes}
use denote.RattleType.{owns}
use denote.Ref.{shr_vals}
use denote.Memory.{hidden_shr}
use denote.Plain.{uint_vals, uint_Tells}
use denote.RawPtr.{block_ptr}
use denote.Signature.{types_at}
use denote.Steps.{heard, nothing}
use denote.Triple.Call.{calls_at}
use denote.Triple.Clauses.{Ended, Clauses}
use denote.Triple.Statement.{Triple}
use denote.Triple.Table.{framed}
use denote.Triple.Walked.{Stays, stay_dropped, walk_of, ends_at, Goes-dropped}
use Rattle.std.proofs.VecSteps.Shapes.{after}
use Rattle.std.proofs.alloc.Calls.{Al, seen, token, Answer, answer_val, Answer-typed, Answer-Ok, Answer-err, takes_key, Takes, at_takes, Answered, Takes-goes, Takes-gives, answers}
use Rattle.failing_alloc.proofs.FailingCalls.{given, number, self, Whole, inner_at, gate_at, both_fields, Asks, at_asks, Asks-goes, Asks-gives}
use Rattle.failing_alloc.proofs.Gate.fails.Symbol as asked
use Rattle.failing_alloc.proofs.Gate.fails.Met as asked_met
use Rattle.failing_alloc.specs.contracts.Gate as gate
use Rattle.failing_alloc.specs.contracts.FailingAllocatorAllocator.allocate as f
use Rattle.failing_alloc.specs.contracts.FailingAllocatorAllocator.allocate.Key as key
use Rattle.failing_alloc.proofs.FailingAllocatorAllocator.allocate.Statement.{statement}
use Rattle.failing_alloc.proofs.FailingAllocatorAllocator.allocate.Code as code

module _ (Z : Al) where
  abbrev here : Fn
  here = inst_fn (given Z) code.function

  abbrev ended : Ended
  ended = f.ended Z.row Z.g Z.d Z.drops

  abbrev stayed : Stays ended.signature.params ended.kept
  stayed = (stay_dropped (self Z) yes, (stay_dropped number yes, (stay_dropped number yes, tt)))

module _ (Z : Al) {M : Type 1} {𝓤 : Ura M} (𝓛 : Logic 𝓤) (𝓜 : Model 𝓤 𝓛.H) (𝓡 : Running 𝓤 𝓛.H 𝓜) where
  open 𝓛 use {H}

  abbrev 𝓣 : MachineTables 𝓤 H 𝓜
  𝓣 = tables 𝓤 H 𝓜 𝓡 𝓡.env

  abbrev held : Clauses 𝓤 (ended Z)
  held = f.clauses Z.row Z.g Z.d Z.drops 𝓛 𝓜.mem 𝓡.returns

  module _ (takes : Triple 𝓤 (𝓣.C (takes_key Z)) (Takes Z 𝓛 𝓜.mem 𝓡.returns))
      (asks : Triple 𝓤 (𝓣.C asked.name) (Asks 𝓛 𝓜.mem 𝓡.returns))
      (κ κ' : Lft) (q q' : Share) (inn : κ ⊑ κ') (r : Bor (Whole Z).Denot) (n a : ℕ) (τ : Ty) where
    abbrev y : (walk_of 𝓛 (ended Z) (stayed Z) held).Ghost
    y = (
      (
        (κ, (κ', tt)),
        (q, (q', tt)),
        (inn, tt),
        (r, (n, (a, tt))),
        (shr_vals r, (vint w64 n ∷ [], (vint w64 a ∷ [], tt))),
      ),
      τ,
    )

    abbrev Post : Val → SProp 𝓤
    Post = (walk_of 𝓛 (ended Z) (stayed Z) held).post y

    abbrev Other : Item 𝓤
    Other = ‵ (flft κ' q') ⊛ ‵ ftrue

    -- the function's end, where it has a block and where it has none
    with_block : (b o : ℕ) → Sq 𝓛 (‵ (froom τ b o) ∷ ‵ (token Z r.now.inner τ (block_ptr b o)) ∷ ‵ (flft κ q) ∷ Other
        ∷ []) (prop (Post (answer_val true b o)))
    with_block b o =
        fjoin ! $ suffices ! _ (ends_at 𝓛 (ended Z) (stayed Z) held y (answer_val true b o) (Ok (block_ptr b o))
        (tt, (tt, (tt, tt))) (tt, (tt, (tt, tt)))) $
        use0 𝓛 (‵ (Answer.own_val (Ok (block_ptr b o)) (answer_val true b o ∷ []))) (Answer-Ok 𝓛 b o) $
        nothing ! $ nothing ! $ fjoin ! $ nothing ! $ fjoin ! $ nothing ! $ fjoin ! $ join ! $ move ! (2 ∷ 3 ∷ []) $
        join ! $ join ! $ done !

    with_none : Sq 𝓛 (‵ (flft κ q) ∷ Other ∷ []) (prop (Post (answer_val false 0 0)))
    with_none =
        suffices ! _ (ends_at 𝓛 (ended Z) (stayed Z) held y (answer_val false 0 0) (Err (record {}))
        (tt, (tt, (tt, tt))) (tt, (tt, (tt, tt)))) $
        nothing ! $ use0 𝓛 (‵ (Answer.own_val (Err (record {})) (answer_val false 0 0 ∷ []))) (Answer-err 𝓛) $
        nothing ! $ nothing ! $ fjoin ! $ nothing ! $ fjoin ! $ nothing ! $ fjoin ! $ join ! $ move ! (2 ∷ 3 ∷ []) $
        join ! $ join ! $ done !

    walk : n < 2 ^ 64 → a < 2 ^ 64 → ent 𝓤 ((walk_of 𝓛 (ended Z) (stayed Z) held).pre y)
        (WpFn 𝓤 H 𝓣.C 𝓣.Λ (here Z) (vptr r.ref_ptr.0 r.ref_ptr.1 ∷ vint w64 n ∷ vint w64 a ∷ []) Post)
    walk fits_n fits_a =
        let h = r.now in let p = r.ref_ptr in
        let Sizes : Type 0 = (capped (size τ) ≡ n) × (capped (align τ) ≡ a) in
        let Ask = Asks 𝓛 𝓜.mem 𝓡.returns in let z = at_asks 𝓛 𝓜.mem 𝓡.returns κ q h.gate (gate_at Z p) in
        let Take = Takes Z 𝓛 𝓜.mem 𝓡.returns in let x = at_takes Z 𝓛 𝓜.mem 𝓡.returns κ q (inner_at Z p) h.inner n a τ in
        qed 𝓛 (((‵ (flft κ q) ⊛ Other) ⊛ ‵ (owns (types_at (ended Z).signature.params y.0.0) y.0.3 y.0.4))
        ∷ (raw (fact 𝓤 (κ' ⊑ Z.row.lives)) ⊛ raw (fact 𝓤 Sizes)) ∷ []) ∵
        move ! (1 ∷ []) $ split ! $ heard ! (κ' ⊑ Z.row.lives) (λ lives. heard ! Sizes (λ sizes.
        split ! $ split ! $ move ! (2 ∷ []) $ fsplit ! $ fsplit ! $ move ! (1 ∷ []) $
        use1 𝓛 (‵ (seen Z κ (inner_at Z p) h.inner) ⊛ ‵
        (hidden_shr gate.the_row κ h.gate (gate_at Z p).0 (gate_at Z p).1)) (both_fields Z 𝓛 κ h p) $ split ! $
        -- [the gate; the token; the inner handle; the other token]
        keep ! (1 ∷ 4 ∷ 0 ∷ 5 ∷ []) $ enter ! 𝓣.C 𝓣.Λ (here Z) _ _ $
        alloc_all ! (λ l. pass_all ! refl (
          (tt, tt),
          ((tt, record { fits = fits_n }), ((tt, record { fits = fits_a }), tt)),
        ) $
        sets ! (addr ! (through ! refl (fld ! refl (stop !)))) refl (tt, tt) $
        use2 𝓛 (raw (Ask.pre z)) (Asks-goes 𝓛 𝓜.mem 𝓡.returns κ q h.gate (gate_at Z p)) $
        calls_at ! (framed 𝓤 H 𝓜 𝓣) Ask asks z (and_then ! (get ! refl) (no_more !)) (λ v.
        use1 𝓛 (later (some (λ (t : Bool). where_true (v ≡ vbool t) (‵ (flft κ q)))))
        (Asks-gives 𝓛 𝓜.mem 𝓡.returns κ q h.gate (gate_at Z p) v) $
        await ! tt $ pick ! (λ t. learn ! (λ flag. lands_as ! flag refl (tt, tt) $
        -- [the token; the inner handle; the other token]
        first ! $ branches ! (get ! refl)
        (λ _. sets ! (agg ! (no_more !)) refl (tt, tt) $
        sets ! (agg ! (and_then ! (lit ! tt) (and_then ! (get ! refl) (no_more !)))) refl (Answer-typed false 0 0) $
        returns_within ! Post refl (look_at ! 0 refl) $ free_all ! refl $ keep ! (0 ∷ 2 ∷ []) $ with_none)
        (λ _. skips ! $ exec ! 𝓣.C 𝓣.Λ (env (here Z).locals l) (after 3 (here Z).body) (at_ret _ Post) $
        move ! (1 ∷ []) $ sets ! (addr ! (through ! refl (fld ! refl (stop !)))) refl (tt, tt) $
        use2 𝓛 (raw (Take.pre x)) (Takes-goes Z 𝓛 𝓜.mem 𝓡.returns κ q (inner_at Z p) h.inner
        (⊑_trans κ κ' Z.row.lives inn lives) n a τ sizes.0 sizes.1 fits_n fits_a) $
        calls_at ! (framed 𝓤 H 𝓜 𝓣) Take takes x
        (and_then ! (get ! refl) (and_then ! (get ! refl) (and_then ! (get ! refl) (no_more !)))) (λ w.
        use1 𝓛 (later (raw (Answered Z 𝓛 𝓜.mem 𝓡.returns h.inner τ w) ⊛ ‵ (flft κ q)))
        (Takes-gives Z 𝓛 𝓜.mem 𝓡.returns κ q (inner_at Z p) h.inner n a τ w) $
        await ! tt $ split ! $ answers Z ! 𝓜.mem 𝓡.returns h.inner τ w
        (λ b o is. lands_as ! is refl (Answer-typed true b o) $ returns ! (look_at ! 0 refl) $ free_all ! refl $
        with_block b o)
        (λ is. lands_as ! is refl (Answer-typed false 0 0) $ returns ! (look_at ! 0 refl) $ free_all ! refl $
        with_none)))))))))

pub allocate_spec : {M : Type 1} → statement M
allocate_spec 𝓤 𝓛 𝓜 𝓡 wired row laws g d drops met _ =
    let Z : Al = record { row = row; laws = laws; g = g; d = d; drops = drops } in
    let numbers = Goes-dropped 𝓛 2 number yes (λ κs x w. refl) in
    proved 𝓛 (ended Z) (stayed Z) (held Z 𝓛 𝓜 𝓡) 𝓜 𝓡
    (Goes-dropped 𝓛 2 (self Z) yes (λ κs x w. refl), (numbers, (numbers, tt)))
    (key.name (given Z)) (here Z) (code.unfolded 𝓤 𝓛.H 𝓜 𝓡 wired (row, tt) d drops)
    (λ κs. (shr_vals, (uint_vals w64, (uint_vals w64, tt))))
    (λ κs. ((λ r vs s. s.0), (uint_Tells w64, (uint_Tells w64, tt))))
    (λ κs qs bounds a τ are. walk Z 𝓛 𝓜 𝓡 (met.allocate drops)
    (asked_met.met 𝓤 𝓛 𝓜 𝓡 (code.calls-failing_alloc::Gate::fails 𝓡.env wired)) κs.0 κs.1.0 qs.0 qs.1.0 bounds.0 a.0
    a.1.0 a.1.1.0 τ are.1.0.1 are.1.1.0.1)
