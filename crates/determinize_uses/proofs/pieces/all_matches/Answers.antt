use Rattle.std.proofs.Common.{◌≡◌, ◌+◌, ◌++◌, ◌<◌, ◌∙◌, ℕ, List, ap, append-nil, get_or, length, map, subst, sym, take}
use Rattle.std.specs.List.{concat}
use Rattle.std.proofs.lemmas.List.{map_more}
use Rattle.std.proofs.lemmas.List.Folds.{concat-append}
use Rattle.determinize_below.specs.declared.search.Match.{Match}
use Rattle.determinize_regex.specs.Streams.{IsStreamOf}
use Rattle.determinize_uses.proofs.pieces.all_matches.Goals as goal

-- one piece more
one_piece : {X : Type 0} (bytes : X → List ℕ) (ps : List X) (i : ℕ) (d : X) → i < length ps
    → concat (map bytes (take (i + 1) ps)) ≡ concat (map bytes (take i ps)) ++ bytes (get_or ps i d)
one_piece bytes ps i d low = rw (map_more bytes ps i d low, concat-append)
    (ap (λ (t : List ℕ). concat (map bytes (take i ps)) ++ t) (append-nil (bytes (get_or ps i d))))

pub loop-piece-preserved : goal.loop-piece-preserved
loop-piece-preserved c =
    let fed = c.in_ok-feed.ensures.fed in
    record {
      same = c.in_ok-feed.ensures.same ∙ c.loop-piece.invariant.same;
      stream = subst (λ (ms : List Match). IsStreamOf c.feed.new.self
          (concat (map (λ piece. piece.now) (take (c.loop-piece.piece-index + 1) c.args.pieces.now))) ms)
          (sym fed.added)
          (subst (λ (t : List ℕ). IsStreamOf c.feed.new.self t (c.loop-piece.found.items ++ fed.found))
          (sym (one_piece (λ piece. piece.now) c.args.pieces.now c.loop-piece.piece-index _ c.loop-piece-test.true))
          (fed.stream _ _ c.loop-piece.invariant.stream));
    }
