-- Texts that are written one after another. `s`, `s1` and so on are what was written at each step.
use Rattle.std.proofs.Common.{◌≡◌, ℕ, List, ◌++◌, ap, append_assoc, ◌∙◌}

onto : {s1 s2 : List ℕ} (s a b : List ℕ) → s1 ≡ s ++ a → s2 ≡ s1 ++ b → s2 ≡ (s ++ a) ++ b
onto s a b e1 e2 = e2 ∙ ap (λ (t : List ℕ). t ++ b) e1

pub joined_2 : {s1 s2 : List ℕ} (s a b : List ℕ) → s1 ≡ s ++ a → s2 ≡ s1 ++ b → s2 ≡ s ++ (a ++ b)
joined_2 s a b e1 e2 = onto s a b e1 e2 ∙ append_assoc s a b

pub joined_3 : {s1 s2 s3 : List ℕ} (s a b c : List ℕ) → s1 ≡ s ++ a → s2 ≡ s1 ++ b → s3 ≡ s2 ++ c
    → s3 ≡ s ++ (a ++ (b ++ c))
joined_3 s a b c e1 e2 e3 = joined_2 (s ++ a) b c (onto s a b e1 e2) e3 ∙ append_assoc s a (b ++ c)

pub joined_4 : {s1 s2 s3 s4 : List ℕ} (s a b c d : List ℕ) → s1 ≡ s ++ a → s2 ≡ s1 ++ b → s3 ≡ s2 ++ c
    → s4 ≡ s3 ++ d → s4 ≡ s ++ (a ++ (b ++ (c ++ d)))
joined_4 s a b c d e1 e2 e3 e4 =
    joined_3 (s ++ a) b c d (onto s a b e1 e2) e3 e4 ∙ append_assoc s a (b ++ (c ++ d))

pub joined_5 : {s1 s2 s3 s4 s5 : List ℕ} (s a b c d e : List ℕ) → s1 ≡ s ++ a → s2 ≡ s1 ++ b → s3 ≡ s2 ++ c
    → s4 ≡ s3 ++ d → s5 ≡ s4 ++ e → s5 ≡ s ++ (a ++ (b ++ (c ++ (d ++ e))))
joined_5 s a b c d e e1 e2 e3 e4 e5 =
    joined_4 (s ++ a) b c d e (onto s a b e1 e2) e3 e4 e5 ∙ append_assoc s a (b ++ (c ++ (d ++ e)))

pub joined_6 : {s1 s2 s3 s4 s5 s6 : List ℕ} (s a b c d e f : List ℕ) → s1 ≡ s ++ a → s2 ≡ s1 ++ b → s3 ≡ s2 ++ c
    → s4 ≡ s3 ++ d → s5 ≡ s4 ++ e → s6 ≡ s5 ++ f → s6 ≡ s ++ (a ++ (b ++ (c ++ (d ++ (e ++ f)))))
joined_6 s a b c d e f e1 e2 e3 e4 e5 e6 =
    joined_5 (s ++ a) b c d e f (onto s a b e1 e2) e3 e4 e5 e6 ∙ append_assoc s a (b ++ (c ++ (d ++ (e ++ f))))

pub joined_7 : {s1 s2 s3 s4 s5 s6 s7 : List ℕ} (s a b c d e f g : List ℕ) → s1 ≡ s ++ a → s2 ≡ s1 ++ b → s3 ≡ s2 ++ c
    → s4 ≡ s3 ++ d → s5 ≡ s4 ++ e → s6 ≡ s5 ++ f → s7 ≡ s6 ++ g
    → s7 ≡ s ++ (a ++ (b ++ (c ++ (d ++ (e ++ (f ++ g))))))
joined_7 s a b c d e f g e1 e2 e3 e4 e5 e6 e7 =
    joined_6 (s ++ a) b c d e f g (onto s a b e1 e2) e3 e4 e5 e6 e7
    ∙ append_assoc s a (b ++ (c ++ (d ++ (e ++ (f ++ g)))))

-- the next part of a whole text is written
pub next_part : {s1 : List ℕ} (s a rest whole : List ℕ) → s ++ (a ++ rest) ≡ whole → s1 ≡ s ++ a → s1 ++ rest ≡ whole
next_part s a rest whole due e = ap (λ (t : List ℕ). t ++ rest) e ∙ append_assoc s a rest ∙ due
