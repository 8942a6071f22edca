-- What is carried in CopyData is read as it was spelled.
use Rattle.std.proofs.Common.{◌≡◌, ℕ, ◌+◌, Bool, true, false, List, ◌++◌, length, refl, ap, ◌∙◌, append_assoc, arith}
use Rattle.std.specs.Prelude.{Some, None, nat_le, not, ◌==◌, if◌then◌else◌}
use Rattle.std.proofs.lemmas.Bool.Decides.{nat_tests}
use Rattle.std.proofs.lemmas.Nat.{from_be_bytes-to_be_bytes_8}
use Rattle.copy_frames.specs.declared.keepalive.Keepalive.{Keepalive}
use Rattle.copy_frames.specs.declared.status.Status.{Status}
use Rattle.copy_frames.specs.declared.xlog_data.XLogData.{XLogData}
use Rattle.copy_frames.specs.Contents.{xlog_data_body, keepalive_body, status_body, flag, number_at, flag_at}
use Rattle.copy_frames.specs.ContentLaws.{XLogDataIsRead, KeepaliveIsRead, StatusIsRead}

keepalive : ℕ → ℕ → Bool → Keepalive
keepalive position clock want = record { position = position; clock = clock; wants_reply = want }

status : ℕ → ℕ → ℕ → ℕ → Bool → Status
status written flushed applied clock want =
    record { written = written; flushed = flushed; applied = applied; clock = clock; wants_reply = want }

head : ℕ → ℕ → ℕ → XLogData
head start end clock = record { start = start; end = end; clock = clock }

flag_is : (want : Bool) → not (flag want == 0) ≡ want
flag_is true = refl
flag_is false = refl

pub keepalive_is_read : KeepaliveIsRead
unfolding keepalive
keepalive_is_read k position clock =
    ap (λ n. Some (keepalive n (number_at 9 (keepalive_body k)) (flag_at 17 (keepalive_body k))))
    (from_be_bytes-to_be_bytes_8 k.position position)
    ∙ ap (λ n. Some (keepalive k.position n (flag_at 17 (keepalive_body k))))
    (from_be_bytes-to_be_bytes_8 k.clock clock)
    ∙ ap (λ b. Some (keepalive k.position k.clock b)) (flag_is k.wants_reply)

pub status_is_read : StatusIsRead
unfolding status
status_is_read s written flushed applied clock =
    ap (λ n. Some (status n (number_at 9 (status_body s)) (number_at 17 (status_body s))
    (number_at 25 (status_body s)) (flag_at 33 (status_body s)))) (from_be_bytes-to_be_bytes_8 s.written written)
    ∙ ap (λ n. Some (status s.written n (number_at 17 (status_body s)) (number_at 25 (status_body s))
    (flag_at 33 (status_body s)))) (from_be_bytes-to_be_bytes_8 s.flushed flushed)
    ∙ ap (λ n. Some (status s.written s.flushed n (number_at 25 (status_body s)) (flag_at 33 (status_body s))))
    (from_be_bytes-to_be_bytes_8 s.applied applied)
    ∙ ap (λ n. Some (status s.written s.flushed s.applied n (flag_at 33 (status_body s))))
    (from_be_bytes-to_be_bytes_8 s.clock clock)
    ∙ ap (λ b. Some (status s.written s.flushed s.applied s.clock b)) (flag_is s.wants_reply)

long_enough : (n : ℕ) → nat_le 25 (25 + n) ≡ true
long_enough n = grind (arith, nat_tests)

pub data_is_read : XLogDataIsRead
unfolding head
data_is_read h message start end clock =
    let body : List ℕ = xlog_data_body h message in
    let long : nat_le 25 (length (xlog_data_body h message)) ≡ true = ap (nat_le 25) (omega arith)
    ∙ long_enough (length message) in
    ap (λ b. if b then Some (head (number_at 1 body) (number_at 9 body) (number_at 17 body), message) else None) long
    ∙ ap (λ n. Some (head n (number_at 9 body) (number_at 17 body), message))
    (from_be_bytes-to_be_bytes_8 h.start start)
    ∙ ap (λ n. Some (head h.start n (number_at 17 body), message)) (from_be_bytes-to_be_bytes_8 h.end end)
    ∙ ap (λ n. Some (head h.start h.end n, message)) (from_be_bytes-to_be_bytes_8 h.clock clock)

-- ---- bytes that were appended one part after another

pub joined_4 : (out a b c d : List ℕ) → out ++ a ++ b ++ c ++ d ≡ out ++ (a ++ (b ++ (c ++ d)))
joined_4 out a b c d = simp append_assoc

pub joined_6 : (out a b c d e f : List ℕ)
    → out ++ a ++ b ++ c ++ d ++ e ++ f ≡ out ++ (a ++ (b ++ (c ++ (d ++ (e ++ f)))))
joined_6 out a b c d e f = simp append_assoc

pub joined_7 : (out a b c d e f g : List ℕ)
    → out ++ a ++ b ++ c ++ d ++ e ++ f ++ g ≡ out ++ (a ++ (b ++ (c ++ (d ++ (e ++ (f ++ g))))))
joined_7 out a b c d e f g = simp append_assoc

pub ruleset content_laws = (data_is_read, keepalive_is_read, status_is_read)
