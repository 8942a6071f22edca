-- What a deframer has returned of all that it was fed.
use Rattle.std.proofs.Common.{◌≡◌, List, [], ◌∷◌, ◌++◌, refl, sym, ap, ◌∙◌, append_assoc}
use Rattle.std.specs.List.{flat_map}
use Rattle.std.proofs.lemmas.List.{append-nil, flat_map_more}
use Rattle.copy_frames.specs.declared.frame.Frame.{Frame}
use Rattle.copy_frames.specs.Frames.{framed, FrameCut, Then, cut, after_frames, cut_fault, fault_in}
use Rattle.copy_frames.specs.FrameLaws.{FrameIsGiven, FaultIsFirst}

after_frames-append : (given : List Frame) (frame : Frame) (last : FrameCut)
    → after_frames (given ++ frame ∷ []) last ≡ after_frames given (Then frame last)
after_frames-append [] frame last = refl
after_frames-append (first ∷ given) frame last = ap (Then first) (after_frames-append given frame last)

fault_of-after_frames : (given : List Frame) (last : FrameCut) → cut_fault (after_frames given last) ≡ cut_fault last
fault_of-after_frames [] last = refl
fault_of-after_frames (frame ∷ given) last = fault_of-after_frames given last

pub frame_is_given : FrameIsGiven
frame_is_given fed given old frame new has gives = record {
  bytes = has.bytes ∙ ap (λ rest. flat_map framed given ++ rest) gives.spelled
      ∙ sym (append_assoc (flat_map framed given) (framed frame) new.bytes)
      ∙ ap (λ front. front ++ new.bytes) (flat_map_more framed [] given frame);
  cuts = λ more.
      ap (λ limit. cut limit (fed ++ more)) gives.limit ∙ has.cuts more ∙ ap (after_frames given) (gives.cuts more)
      ∙ sym (after_frames-append given frame (cut old.limit (new.bytes ++ more)))
      ∙ ap (λ limit. after_frames (given ++ frame ∷ []) (cut limit (new.bytes ++ more))) (sym gives.limit);
}

pub fault_is_first : FaultIsFirst
fault_is_first fed given inbox has =
    ap (fault_in inbox.limit) (sym (append-nil fed)) ∙ ap cut_fault (has.cuts [])
    ∙ fault_of-after_frames given (cut inbox.limit (inbox.bytes ++ []))
    ∙ ap (fault_in inbox.limit) (append-nil inbox.bytes)
