-- How the replies to a sheet are written out, each on a line.
use Rattle.std.specs.Prelude.{ℕ, List, [], ◌∷◌, ◌++◌, codes}
use Rattle.std.specs.Fmt.{decimal, signed_decimal}
use Rattle.std.specs.List.{join_with_byte}
use Rattle.sheet.specs.Bytes.{line_end, space_byte}
use Rattle.sheet.specs.declared.replies.Reply.{Reply}

-- the line of names that comes before the first reply
abbrev pub names_line : List ℕ
names_line = codes "line code x y z" ++ line_end

-- five numbers in base ten, one space between
abbrev pub reply_text : Reply → List ℕ
reply_text reply = join_with_byte space_byte (decimal reply.line ∷ decimal reply.code ∷ signed_decimal reply.x ∷ signed_decimal reply.y ∷ signed_decimal reply.z ∷ [])

abbrev pub reply_line : Reply → List ℕ
reply_line reply = reply_text reply ++ line_end
