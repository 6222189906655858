-- A client of the definitions, and one that reads the bytes of the same frames.
use Rattle.std.specs.Prelude.{◌≡◌, ℕ, ◌<◌, ◌^◌, List, [], ◌∷◌, map, Option, Some, None, option_map}
use Rattle.serde_json.specs.Written.{compact_text}
use Rattle.diff_tree.specs.Tree.{Tree, Change, inner, Changes, no_changes, skip, change}
use Rattle.diff_tree.specs.Client.{PageTree, PageDiff}
use Rattle.diff_tree.specs.Frame.{Frame, FrameBody, rendered, changed, push, frame_json, client_takes, client_takes_all}
use Rattle.wire_v2.specs.FrameGrammar.{SpellsFrame}
use Rattle.client_merge.specs.Laws.{IsSmall, ChangesAreSmall, reach}
use Rattle.client_merge.specs.Frames.{client_reads, client_reads_all}

-- the tree of a page that is held, if one is
abbrev pub root_held : Option PageTree → Option Tree
root_held held = option_map (λ p. p.root) held

-- a page of texts, nodes and lists alone, without components
abbrev pub IsSmallPage : PageTree → Type 0
IsSmallPage p = IsSmall p.root × (p.numbers ≡ []) × ((n : ℕ) → p.component n ≡ None)

-- the same of a page that is held, if one is
abbrev pub HoldsSmall : Option PageTree → Type 0
HoldsSmall None = Unit {0}
HoldsSmall (Some p) = IsSmallPage p

-- the same of a diff
abbrev pub IsSmallDiff : PageDiff → Type 0
IsSmallDiff d = (reach d.root < 2 ^ 64) × ChangesAreSmall d.root × (d.components ≡ [])

-- the same of what a frame carries
abbrev pub IsSmallBody : FrameBody → Type 0
IsSmallBody (rendered p es) = IsSmallPage p
IsSmallBody (changed d es) = IsSmallDiff d
IsSmallBody (push d es) = IsSmallDiff d
IsSmallBody _ = Unit {0}

-- the bytes of a frame
abbrev pub frame_bytes : Frame → List ℕ
frame_bytes f = compact_text (frame_json f)

-- a frame of texts, nodes and lists alone, whose bytes spell it
abbrev pub IsSmallFrame : Frame → Type 0
IsSmallFrame f = IsSmallBody f.body × SpellsFrame (frame_bytes f) (frame_json f)

abbrev pub AreSmallFrames : List Frame → Type 0
AreSmallFrames [] = Unit {0}
AreSmallFrames (f ∷ fs) = IsSmallFrame f × AreSmallFrames fs

-- where a client of the definitions takes a frame, one that reads holds the same tree, or no page too
abbrev pub HoldsAlike : Option (Option PageTree) → Option (Option Tree) → Type 0
HoldsAlike None read = Unit {0}
HoldsAlike (Some held) read = (read ≡ Some (root_held held)) × HoldsSmall held

-- a frame is read as it is taken
abbrev pub FramesReadAlike : Type 0
FramesReadAlike = (k : ℕ) (held : Option PageTree) (f : Frame) → HoldsSmall held → IsSmallFrame f → HoldsAlike (client_takes k held f.body) (client_reads (root_held held) (frame_bytes f))

-- frames are read as they are taken
abbrev pub AllReadAlike : Type 0
AllReadAlike = (k : ℕ) (held : Option PageTree) (fs : List Frame) → HoldsSmall held → AreSmallFrames fs → HoldsAlike (client_takes_all k held fs) (client_reads_all (root_held held) (map frame_bytes fs))

-- changes that end in none that is skipped, inside too
abbrev mutual
  pub EndInChange : Changes → Type 0
  EndInChange no_changes = Unit {0}
  EndInChange (skip cs) = (cs ≡ no_changes → ⊥) × EndInChange cs
  EndInChange (change c cs) = EndsInChange c × EndInChange cs

  pub EndsInChange : Change → Type 0
  EndsInChange (inner cs) = EndInChange cs
  EndsInChange _ = Unit {0}

-- what a frame carries, where a diff's changes end so
abbrev pub BodyEndsInChange : FrameBody → Type 0
BodyEndsInChange (changed d es) = EndInChange d.root
BodyEndsInChange (push d es) = EndInChange d.root
BodyEndsInChange _ = Unit {0}

-- a frame that is bad for a client of the definitions is bad for one that reads; the JSON of changes does not tell whether skipped places follow the last change
abbrev pub FramesRefusedAlike : Type 0
FramesRefusedAlike = (k : ℕ) (held : Option PageTree) (f : Frame) → HoldsSmall held → IsSmallFrame f → BodyEndsInChange f.body → client_takes k held f.body ≡ None → client_reads (root_held held) (frame_bytes f) ≡ None
