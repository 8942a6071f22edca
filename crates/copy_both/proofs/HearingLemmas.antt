-- Frames are heard one after another, until a fault or an end.
use Rattle.std.proofs.Common.{◌≡◌, ℕ, zero, suc, true, List, [], ◌∷◌, ◌++◌, take, drop, refl, sym, ap, ◌∙◌}
use Rattle.copy_frames.specs.declared.frame.Frame.{Frame}
use Rattle.copy_both.specs.Hearing.{HearingOf, ServedFrom, is_over, unless_over, next_heard, frame_heard, frames_heard}

-- nothing is heard after a fault or an end
pub over_stays : (served : ServedFrom) (h : HearingOf) (frames : List Frame) → is_over h ≡ true
    → frames_heard served h frames ≡ h
unfolding frames_heard
over_stays served h [] over = refl
over_stays served h (frame ∷ frames) over =
    ap (λ b. frames_heard served (unless_over b h (next_heard served frame h.started h)) frames) over
    ∙ over_stays served h frames over

heard_append : (served : ServedFrom) (h : HearingOf) (xs ys : List Frame)
    → frames_heard served h (xs ++ ys) ≡ frames_heard served (frames_heard served h xs) ys
unfolding frames_heard
heard_append served h [] ys = refl
heard_append served h (frame ∷ xs) ys = heard_append served (frame_heard served h frame) xs ys

heard_one : (served : ServedFrom) (h : HearingOf) (frame : Frame)
    → frames_heard served h (frame ∷ []) ≡ frame_heard served h frame
unfolding frames_heard
heard_one served h frame = refl

heard_first : (served : ServedFrom) (h : HearingOf) (frame : Frame) (frames : List Frame)
    → frames_heard served h (frame ∷ frames) ≡ frames_heard served (frame_heard served h frame) frames
unfolding frames_heard
heard_first served h frame frames = refl

pub heard_none : (served : ServedFrom) (h : HearingOf) → frames_heard served h [] ≡ h
unfolding frames_heard
heard_none served h = refl

take_next : (n : ℕ) (xs : List Frame) (x : Frame) (ys : List Frame) → drop n xs ≡ x ∷ ys
    → take (suc n) xs ≡ take n xs ++ x ∷ []
take_next zero [] x ys e = absurd cc
take_next zero (y ∷ xs) x ys e = let same : y ≡ x = cc in ap (λ z. z ∷ []) same
take_next (suc n) [] x ys e = absurd cc
take_next (suc n) (y ∷ xs) x ys e = ap (λ t. y ∷ t) (take_next n xs x ys e)

drop_next : (n : ℕ) (xs : List Frame) (x : Frame) (ys : List Frame) → drop n xs ≡ x ∷ ys → drop (suc n) xs ≡ ys
drop_next zero [] x ys e = absurd cc
drop_next zero (y ∷ xs) x ys e = cc
drop_next (suc n) [] x ys e = absurd cc
drop_next (suc n) (y ∷ xs) x ys e = drop_next n xs x ys e

-- the first frames, this number of them, were heard, and these remain
pub record IsHeardTo (served : ServedFrom) (start now : HearingOf) (frames left : List Frame) (n : ℕ) : Type 0 where
  pub now_is : now ≡ frames_heard served start (take n frames)
  pub left_is : drop n frames ≡ left

abbrev pub HeardSome : ServedFrom → HearingOf → HearingOf → List Frame → List Frame → Type 0
HeardSome served start now frames left = (n : ℕ) × IsHeardTo served start now frames left n

pub heard_on : (served : ServedFrom) (start now next : HearingOf) (frames : List Frame) (frame : Frame)
    (left : List Frame) → HeardSome served start now frames (frame ∷ left) → next ≡ frame_heard served now frame
    → HeardSome served start next frames left
heard_on served start now next frames frame left some is =
    let n : ℕ = some.0 in
    let so = some.1 in (
      suc n,
      record {
        now_is = is ∙ ap (λ h. frame_heard served h frame) so.now_is
            ∙ sym (heard_one served (frames_heard served start (take n frames)) frame)
            ∙ sym (heard_append served start (take n frames) (frame ∷ []))
            ∙ ap (frames_heard served start) (sym (take_next n frames frame left so.left_is));
        left_is = drop_next n frames frame left so.left_is;
      },
    )

split_at : (n : ℕ) (xs : List Frame) → take n xs ++ drop n xs ≡ xs
split_at zero xs = refl
split_at (suc n) [] = refl
split_at (suc n) (x ∷ xs) = ap (λ t. x ∷ t) (split_at n xs)

-- what all frames do is what the remaining ones do
pub all_heard : (served : ServedFrom) (start now : HearingOf) (frames left : List Frame)
    → HeardSome served start now frames left
    → frames_heard served start frames ≡ frames_heard served now left
all_heard served start now frames left some =
    let n : ℕ = some.0 in
    let so = some.1 in
    ap (frames_heard served start) (sym (split_at n frames)) ∙ heard_append served start (take n frames) (drop n frames)
    ∙ ap (λ h. frames_heard served h (drop n frames)) (sym so.now_is) ∙ ap (frames_heard served now) so.left_is

-- a fault of the next frame is that of all
pub fails_all : (served : ServedFrom) (start now failed : HearingOf) (frames : List Frame) (frame : Frame)
    (left : List Frame)
    → HeardSome served start now frames (frame ∷ left) → frame_heard served now frame ≡ failed → is_over failed ≡ true
    → frames_heard served start frames ≡ failed
fails_all served start now failed frames frame left some fails over =
    all_heard served start now frames (frame ∷ left) some ∙ heard_first served now frame left
    ∙ ap (λ h. frames_heard served h left) fails ∙ over_stays served failed left over
