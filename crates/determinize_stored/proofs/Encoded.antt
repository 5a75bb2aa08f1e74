-- Bytes that numbers are written as.
-- Main statements: words-again, bytes-length, words-encoded.
-- Used by: the lemmas on whole files.
-- Idea: four bytes are one number below 2^32, and one such number is four bytes.
use Rattle.determinize_core.proofs.Common.{[], ap, arith, length, List, refl, suc, sym, zero}
use Rattle.determinize_core.proofs.Common.{ℕ, ◌*◌, ◌++◌, ◌<◌, ◌∙◌, ◌∷◌, ◌≡◌}
use Rattle.std.specs.Prelude.{All, get_or, ◌^◌}
use Rattle.std.proofs.lemmas.Nat.{from_le_bytes-to_le_bytes_4, le_bytes_4}
use Rattle.std.proofs.lemmas.List.Elements.{All-head, All-tail}
use Rattle.determinize_dense.specs.Bytes.{bytes_of_words}
use Rattle.determinize_stored.specs.Private.Words.{words_in}

pub words-again : (ws : List ℕ) → All (λ w. w < 2 ^ 32) ws → words_in (bytes_of_words ws) ≡ ws
words-again [] small = refl
words-again (w ∷ ws) small =
    ap (λ n. n ∷ words_in (bytes_of_words ws)) (from_le_bytes-to_le_bytes_4 w (All-head (λ n. n < 2 ^ 32) w ws small))
    ∙ ap (λ ns. w ∷ ns) (words-again ws (All-tail (λ n. n < 2 ^ 32) w ws small))

pub bytes-length : (ws : List ℕ) → length (bytes_of_words ws) ≡ 4 * length ws
bytes-length [] = refl
bytes-length (w ∷ ws) = let h = bytes-length ws in omega (arith, h)

-- four of some bytes
four_fit : (a b c d : ℕ) (bs : List ℕ) → ((i : ℕ) → get_or (a ∷ b ∷ c ∷ d ∷ bs) i 0 < 256) → (i : ℕ)
    → get_or (a ∷ b ∷ c ∷ d ∷ []) i 0 < 256
four_fit a b c d bs fit zero = fit 0
four_fit a b c d bs fit (suc zero) = fit 1
four_fit a b c d bs fit (suc (suc zero)) = fit 2
four_fit a b c d bs fit (suc (suc (suc zero))) = fit 3
four_fit a b c d bs fit (suc (suc (suc (suc i)))) = omega arith

pub words-encoded : (bs : List ℕ) → ((i : ℕ) → get_or bs i 0 < 256) → length bs ≡ 4 * length (words_in bs)
    → bs ≡ bytes_of_words (words_in bs)
words-encoded [] fit all = refl
words-encoded (a ∷ []) fit all = absurd (let no : ⊥ = omega (arith, all) in no)
words-encoded (a ∷ b ∷ []) fit all = absurd (let no : ⊥ = omega (arith, all) in no)
words-encoded (a ∷ b ∷ c ∷ []) fit all = absurd (let no : ⊥ = omega (arith, all) in no)
words-encoded (a ∷ b ∷ c ∷ d ∷ bs) fit all =
    let rest = words-encoded bs (λ i. fit (suc (suc (suc (suc i))))) (omega (arith, all)) in
    let first = le_bytes_4 (a ∷ b ∷ c ∷ d ∷ []) _ refl (four_fit a b c d bs fit) refl in
    ap (λ l. a ∷ b ∷ c ∷ d ∷ l) rest
    ∙ ap (λ l. l ++ bytes_of_words (words_in bs)) (sym first)
