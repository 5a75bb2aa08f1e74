-- The names of the example walks.
use Rattle.std.specs.Prelude.{ℕ, Bool, false, List, [], ◌∷◌, String, bytes_eq, codes, string_bytes}
use Rattle.std.specs.List.{list_any}

-- the names of the examples
unfoldable pub names : List (List ℕ)
names = codes "2" ∷ codes "3" ∷ codes "4a" ∷ codes "4b" ∷ codes "5" ∷ codes "6" ∷ codes "7"
    ∷ codes "8a" ∷ codes "8b" ∷ codes "8c" ∷ codes "9a" ∷ codes "9b" ∷ codes "9c" ∷ codes "10a"
    ∷ codes "10b" ∷ codes "11a" ∷ codes "11b" ∷ codes "12" ∷ codes "13" ∷ codes "14"
    ∷ codes "18" ∷ codes "19" ∷ codes "20" ∷ codes "25a" ∷ codes "25b" ∷ codes "27a"
    ∷ codes "27b" ∷ codes "28a" ∷ codes "28b" ∷ codes "28c" ∷ codes "28d" ∷ codes "28e"
    ∷ codes "28f" ∷ codes "28g" ∷ codes "29a" ∷ codes "29b" ∷ codes "29c" ∷ codes "29d"
    ∷ codes "29e" ∷ codes "30a" ∷ codes "30b" ∷ codes "31a" ∷ codes "31b" ∷ codes "31c"
    ∷ codes "32" ∷ []

-- whether a text is the name of an example
unfoldable pub is_name : List ℕ → Bool
is_name text = list_any (λ name. bytes_eq name text) names

-- whether words are the name of an example, and nothing else
abbrev pub are_name : {A : Type 0} → List (String A) → Bool
are_name (word ∷ []) = is_name (string_bytes word)
are_name _ = false
