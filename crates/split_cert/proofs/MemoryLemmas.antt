-- Only a split allocates memory: the two words of a node are read without any, and so is a node that is not a split.
use Rattle.std.proofs.Common.{◌≡◌, ℕ, ◌+◌, Bool, true, false, ◌&&◌, ◌==◌, List, [], ◌∷◌, ◌++◌, length, take, Option, Some, None, Ok, Err, ap, ◌∙◌}
use Rattle.std.specs.Prelude.{if◌then◌else◌, nat_le}
use Rattle.std.specs.Fmt.{decimal}
use Rattle.split_cert.specs.declared.error.CertError.TheVariants.{BadToken, Ended, TooLarge, TooDeep, OutOfMemory}
use Rattle.split_cert.specs.declared.head.Head.{Head}
use Rattle.split_cert.specs.declared.head.Kind.{Kind}
use Rattle.split_cert.specs.declared.head.Kind.TheVariants.{Split}
use Rattle.split_cert.specs.Numbers.{word_number}
use Rattle.split_cert.specs.Reading.{Here, Outcome, Rule, and_then, ◌>>=◌, ◌>>◌, pure, word_len, past, word, space_first, space, meant, kind_of, letter, numeral, is_split, count, head}
use Rattle.split_cert.specs.Text.{words_of, BeginsWithSplit}
use Rattle.split_cert.specs.Tree.{max_nodes}
use Rattle.split_cert.proofs.HeadLemmas.{head_takes}

-- the outcome is not out of memory
abbrev pub NeedsNone : {A : Type 0} → Outcome A → Type 0
NeedsNone outcome = outcome ≡ Err OutOfMemory → ⊥

bind_needs_none : {A B : Type 0} (outcome : Outcome A) (more : A → Rule B) → NeedsNone outcome
    → ((a : A) (here : Here) → NeedsNone (more a here)) → NeedsNone (and_then outcome more)
bind_needs_none (Ok read) more first next e = next read.0 read.1 e
bind_needs_none (Err fault) more first next e = let same : fault ≡ OutOfMemory = cc in
    first (ap (λ fault. Err fault) same)

unless_ended : {A : Type 0} (b : Bool) (x : A × Here) → NeedsNone (if b then Err Ended else Ok x)
unless_ended true x e = cc
unless_ended false x e = cc

word_needs_none : (here : Here) → NeedsNone (word here)
unfolding word
word_needs_none here =
    unless_ended (length here.rest == 0) (take (word_len here.rest) here.rest, past (word_len here.rest) here)

meant_needs_none : {A : Type 0} (place : ℕ) (found : Option A) (here : Here) → NeedsNone (meant place found here)
meant_needs_none place None here e = cc
meant_needs_none place (Some a) here e = cc

letter_needs_none : (here : Here) → NeedsNone (letter here)
unfolding letter
letter_needs_none here =
    bind_needs_none (word here) (λ bytes. meant here.place (kind_of bytes)) (word_needs_none here)
    (λ bytes behind. meant_needs_none here.place (kind_of bytes) behind)

number_needs_none : (here : Here) → NeedsNone (numeral here)
unfolding numeral
number_needs_none here =
    bind_needs_none (word here) (λ bytes. meant here.place (word_number bytes)) (word_needs_none here)
    (λ bytes behind. meant_needs_none here.place (word_number bytes) behind)

if_space : (b : Bool) (place : ℕ) (x : Unit {0} × Here) → NeedsNone (if b then Ok x else Err (BadToken place))
if_space true place x e = cc
if_space false place x e = cc

first_needs_none : (here : Here) (bytes : List ℕ) → NeedsNone (space_first here bytes)
first_needs_none here [] e = cc
first_needs_none here (byte ∷ bytes) e =
    if_space (byte == 32) here.place (tt, record { place = here.place + 1; nodes = here.nodes; rest = bytes }) e

pub space_needs_none : (here : Here) → NeedsNone (space here)
unfolding space
space_needs_none here = first_needs_none here here.rest

within_limits : (large deep : Bool) (x : Unit {0} × Here)
    → NeedsNone (if large then Err TooLarge else (if deep then Err TooDeep else Ok x))
within_limits true deep x e = cc
within_limits false true x e = cc
within_limits false false x e = cc

count_needs_none : (may_open : ℕ) (kind : Kind) (here : Here) → NeedsNone (count may_open kind here)
unfolding count
count_needs_none may_open kind here =
    within_limits (nat_le max_nodes here.nodes) (is_split kind && may_open == 0)
    (tt, record { place = here.place; nodes = here.nodes + 1; rest = here.rest })

pub head_needs_none : (may_open : ℕ) (here : Here) → NeedsNone (head may_open here)
unfolding head
head_needs_none may_open here =
    bind_needs_none (letter here)
    (λ kind. count may_open kind >> space >> numeral >>= (λ n. pure (record { kind = kind; number = n })))
    (letter_needs_none here) (λ kind behind.
    bind_needs_none ((count may_open kind >> space >> numeral) behind) (λ n. pure (record { kind = kind; number = n }))
    (bind_needs_none ((count may_open kind >> space) behind) (λ _. numeral)
    (bind_needs_none (count may_open kind behind) (λ _. space) (count_needs_none may_open kind behind)
    (λ _ here. space_needs_none here))
    (λ _ here. number_needs_none here))
    (λ n here e. cc))

-- ---- a tree

pub split_begins : (may_open : ℕ) (here : Here) (h : Head) (behind : Here) → head may_open here ≡ Ok (h, behind)
    → h.kind ≡ Split → BeginsWithSplit here.rest
split_begins may_open here h behind e split =
    let takes = head_takes may_open here (h, behind) e in
    (decimal h.number ++ behind.rest, takes.parts ∙ ap (λ kind. words_of kind h.number ++ behind.rest) split)
