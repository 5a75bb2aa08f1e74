use Rattle.determinize_regex.proofs.Common.{Bor, drop, FoldsTo, length, List, map, Match, take, ℕ, ◌≡◌}
use Rattle.determinize_regex.proofs.Splitting.{AreLeft, IsNewOfEach}
use Rattle.determinize_regex.proofs.split.replace_each.Given as goal

abbrev pub invariant-loop-next : goal.invariant-loop-next
invariant-loop-next g l = record {
  callable : goal.F-IsAlwaysCallable g l.call;
  left : AreLeft (length l.text) l.at (drop l.next-index l.found);
  so_far : (each : List (Match × Bor (List ℕ))) × (map (λ x. x.0) each ≡ take l.next-index l.found)
      × FoldsTo (λ p x q. (shown : _) × (shown.now ≡ x.0) × goal.F-step g p shown x.1 q) l.fn.replacement each l.call
      × IsNewOfEach l.text l.at each l.new.items;
}
