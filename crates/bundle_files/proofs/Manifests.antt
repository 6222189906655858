-- What bytes spell, from what the reader of JSON says of them.
use Rattle.std.proofs.Common.{◌≡◌, ℕ, List, Bool, true, false, cond, Some, None, option_and_then, refl}
use Rattle.std.specs.Str.{IsUtf8, is_utf8}
use Rattle.std.proofs.lemmas.Str.{IsUtf8-from_is_utf8, is_utf8-from_IsUtf8}
use Rattle.serde_json.specs.Data.{Data}
use Rattle.serde_json.specs.Read.{read}
use Rattle.bundle_files.specs.Manifest.{manifest_of, manifest_in}

pub manifest_is : (bytes : List ℕ) (d : Data) → IsUtf8 bytes → read bytes ≡ Some d → manifest_in bytes ≡ manifest_of d
manifest_is bytes d utf8 e = let u = is_utf8-from_IsUtf8 bytes utf8 in rw (u, e)

none_if : (b : Bool) (bytes : List ℕ) → is_utf8 bytes ≡ b → (IsUtf8 bytes → read bytes ≡ None) → cond b (option_and_then manifest_of (read bytes)) None ≡ None
none_if true bytes u h = let e = h (IsUtf8-from_is_utf8 bytes u) in rw e
none_if false bytes u h = refl

pub manifest_none : (bytes : List ℕ) → (IsUtf8 bytes → read bytes ≡ None) → manifest_in bytes ≡ None
manifest_none bytes h = none_if (is_utf8 bytes) bytes refl h
