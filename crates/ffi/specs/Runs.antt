-- Records of calls served one after the other: what stands, and what each gives. Assumes nothing.
use Rattle.std.specs.Prelude.{ℕ, List, [], ◌∷◌, Some, None, Option}
use Rattle.plans.specs.Channels.{channels}
use Rattle.plans.specs.Filling.{add_after, add_answer, no_items}
use Rattle.plans.specs.Items.{Items}
use Rattle.plans.specs.Table.{table}
use Rattle.plans.specs.declared.equipment.Equipment.{Equipment}
use Rattle.model.specs.Model.{Model, just_made}
use Rattle.model.specs.Runs.{next, reply}
use Rattle.book.specs.Books.{shown}
use Rattle.book.specs.declared.books.Book.{Book}
use Rattle.ffi.specs.declared.plain.CallRecord.{CallRecord}
use Rattle.ffi.specs.declared.plain.ReplyRecord.{ReplyRecord}
use Rattle.ffi.specs.declared.request.Request.{Request}
use Rattle.ffi.specs.declared.request.Request.TheVariants.{OverChannels, OverEquipment, Equip}
use Rattle.ffi.specs.declared.served.Served.{Served}
use Rattle.ffi.specs.Replies.{equipment_record, no_call, reply_record}
use Rattle.ffi.specs.Requests.{request_of}

-- what stands: the book's model, and the items of the equipment table
pub record Standing : Type 0 where
  pub model : Model
  pub equipment : Items

-- before the first call of a run: what the book holds, and no items
abbrev pub begun : Model → Standing
begun M = record { model = M; equipment = no_items }

-- of a just made book
abbrev pub at_first : Standing
at_first = begun just_made

-- what stands in a book and an equipment table
abbrev pub standing : Book → Equipment → Standing
standing b e = record { model = shown b; equipment = table e }

-- what stands where calls are served
abbrev pub standing_on : Served → Standing
standing_on s = standing s.book s.equipment

-- what a request gives; a record that asks for nothing is told so
abbrev pub reply_to : ℕ → ℕ → Standing → Option Request → ReplyRecord
reply_to n capacity S None = no_call
reply_to n capacity S (Some (OverChannels call)) = reply_record (reply n capacity channels S.model call)
reply_to n capacity S (Some (OverEquipment call)) = reply_record (reply n capacity S.equipment S.model call)
reply_to n capacity S (Some (Equip item first second)) = equipment_record (add_answer S.equipment item first second)

-- what stands after it
abbrev pub after : ℕ → ℕ → Standing → Option Request → Standing
after n capacity S None = S
after n capacity S (Some (OverChannels call)) = record { model = next n capacity S.model call; equipment = S.equipment }
after n capacity S (Some (OverEquipment call)) = record { model = next n capacity S.model call; equipment = S.equipment }
after n capacity S (Some (Equip item first second)) = record { model = S.model; equipment = add_after S.equipment item first second }

-- what stands after the records, and their replies, the first record first
unfoldable pub run : ℕ → ℕ → Standing → List CallRecord → Standing
run n capacity S [] = S
run n capacity S (c ∷ cs) = run n capacity (after n capacity S (request_of c)) cs

unfoldable pub all_replies : ℕ → ℕ → Standing → List CallRecord → List ReplyRecord
all_replies n capacity S [] = []
all_replies n capacity S (c ∷ cs) =
    reply_to n capacity S (request_of c) ∷ all_replies n capacity (after n capacity S (request_of c)) cs
