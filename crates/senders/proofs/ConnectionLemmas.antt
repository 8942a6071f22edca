-- Bytes that are known stay where nothing is taken.
use Rattle.std.proofs.Common.{ℕ, List, [], ◌++◌, Option, Some, None, refl, sym, ◌∙◌, ap, append-nil}
use Rattle.std.specs.Io.KnownBytes.{Appends, Consumes, Keeps}

pub none_taken : (old new : Option (List ℕ)) → Appends old new [] → Keeps old new
none_taken None new h = tt
none_taken (Some xs) None h = absurd h
none_taken (Some xs) (Some ys) h = h ∙ append-nil xs

pub still_kept : (old middle new : Option (List ℕ)) → Keeps old middle → Keeps middle new → Keeps old new
still_kept None middle new h k = tt
still_kept (Some xs) None new h k = absurd h
still_kept (Some xs) (Some ys) None h k = absurd k
still_kept (Some xs) (Some ys) (Some zs) h k = k ∙ h

pub kept_itself : (known : Option (List ℕ)) → Keeps known known
kept_itself None = tt
kept_itself (Some xs) = refl

pub kept_then_taken : (old middle new : Option (List ℕ)) (bytes : List ℕ) → Keeps old middle
    → Appends middle new bytes → Appends old new bytes
kept_then_taken None middle new bytes h k = tt
kept_then_taken (Some xs) None new bytes h k = absurd h
kept_then_taken (Some xs) (Some ys) None bytes h k = absurd k
kept_then_taken (Some xs) (Some ys) (Some zs) bytes h k = k ∙ ap (λ (front : List ℕ). front ++ bytes) h

pub kept_then_given : (old middle new : Option (List ℕ)) (bytes : List ℕ) → Keeps old middle
    → Consumes middle new bytes → Consumes old new bytes
kept_then_given None middle new bytes h k = tt
kept_then_given (Some xs) None new bytes h k = absurd h
kept_then_given (Some xs) (Some ys) None bytes h k = absurd k
kept_then_given (Some xs) (Some ys) (Some zs) bytes h k = sym h ∙ k
