-- Worked examples: a chat of two browsers over one topic and a stream.
use Rattle.std.proofs.Common.{◌≡◌, ℕ, List, [], ◌∷◌, ◌++◌, length, Some, Ok, codes, refl}
use Rattle.std.specs.Float.Numeral.{scan_numeral}
use Rattle.std.specs.Fmt.{digits}
use Rattle.json.specs.Json.{items, members, value}
use Rattle.json.specs.Lex.{lex, punctuate}
use Rattle.json.specs.Text.{content}
use Rattle.json.specs.Word.{after_number, word}
use Rattle.json.specs.Print.{escape_byte}
use Rattle.serde_json.specs.Read.{number_of}
use Rattle.doc_model.specs.Effects.{to_subscribe, to_publish}
use Rattle.doc_model.specs.Process.{Stepped}
use Rattle.doc_model.proofs.ExampleChat.{chatting, comes, submits, receives}
use Rattle.doc_model.proofs.ExampleWorlds.{frames_text, carried_text, client_page, full_page}

abbrev bob : List ℕ
bob = codes "{\"body\":\"yo\",\"name\":\"Bob\"}"

abbrev ann : List ℕ
ann = codes "{\"body\":\"hi\",\"name\":\"Ann\"}"

-- one browser from its join to its form
abbrev ann_comes : Stepped
ann_comes = comes (codes "lv:A")

abbrev bob_comes : Stepped
bob_comes = comes (codes "lv:B")

abbrev ann_saves : Stepped
ann_saves = submits (codes "lv:A") (codes "user[name]=Ann&msg=hi")

abbrev bob_saves : Stepped
bob_saves = submits (codes "lv:B") (codes "user[name]=Bob&msg=yo")

-- the mails that each is sent: Bob's stands before Ann's
abbrev ann_first : Stepped
ann_first = receives ann_saves bob

abbrev bob_first : Stepped
bob_first = receives bob_saves bob

abbrev ann_second : Stepped
ann_second = receives ann_first ann

abbrev bob_second : Stepped
bob_second = receives bob_first ann

abbrev page : List ℕ
page = codes "<h1>lobby</h1><ul id=\"msgs\" phx-update=\"stream\"><li id=\"msgs-1\"><b>Bob</b>: yo</li><li id=\"msgs-2\"><b>Ann</b>: hi</li></ul><form phx-submit=\"save\"><input name=\"msg\" value=\"\"></form>"

example_chat_tree : carried_text ann_comes
    ≡ codes "{\"0\":\"lobby\",\"1\":{\"d\":[],\"s\":[\"<li\",\"><b>\",\"</b>: \",\"</li>\"],\"stream\":[\"msgs\",[],[]]},\"2\":\" value=\\\"\\\"\",\"s\":[\"<h1>\",\"</h1><ul id=\\\"msgs\\\" phx-update=\\\"stream\\\">\",\"</ul><form phx-submit=\\\"save\\\"><input name=\\\"msg\\\"\",\"></form>\"]}" ∷ []
unfolding digits escape_byte
example_chat_tree = refl

-- each join subscribes, and each form publishes who says what
example_chat_subscribed : ann_comes.actions ≡ to_subscribe (codes "room:lobby") 1 ∷ []
unfolding digits
example_chat_subscribed = refl

example_chat_ann_published : ann_saves.actions ≡ to_publish (codes "room:lobby") ann ∷ []
unfolding digits escape_byte
example_chat_ann_published = refl

example_chat_bob_published : bob_saves.actions ≡ to_publish (codes "room:lobby") bob ∷ []
unfolding digits escape_byte
example_chat_bob_published = refl

-- a mail puts one row into the stream
example_chat_frames : frames_text ann_first
    ≡ codes "[\"1\",null,\"lv:A\",\"diff\",{\"1\":{\"d\":[[\" id=\\\"msgs-1\\\"\",\"Bob\",\"yo\"]],\"stream\":[\"msgs\",[[\"msgs-1\",-1,null]],[]]}}]" ∷ []
unfolding digits items members value lex punctuate content after_number word number_of scan_numeral escape_byte
example_chat_frames = refl

-- both show the same page, of 181 bytes
example_chat_length : length page ≡ 181
example_chat_length = refl

example_chat_ann_shown : client_page chatting (ann_comes.frames ++ (ann_saves.frames ++ (ann_first.frames ++ ann_second.frames))) ≡ Some (Some page)
unfolding digits items members value lex punctuate content after_number word number_of scan_numeral
example_chat_ann_shown = refl

example_chat_bob_shown : client_page chatting (bob_comes.frames ++ (bob_saves.frames ++ (bob_first.frames ++ bob_second.frames))) ≡ Some (Some page)
unfolding digits items members value lex punctuate content after_number word number_of scan_numeral
example_chat_bob_shown = refl

example_chat_rendered : full_page chatting ann_second ≡ Some (Ok page)
unfolding digits items members value lex punctuate content after_number word number_of scan_numeral
example_chat_rendered = refl
