-- The texts of a check and of a run.
use Rattle.std.specs.Prelude.{ℕ, ◌+◌, ◌*◌, ◌/◌, ◌%◌, Bool, true, false, List, [], ◌∷◌, ◌++◌, length, take, drop, map, sum, codes, decimal, nat_lt, nat_eq, if◌then◌else◌}
use Rattle.std.specs.List.{flat_map, list_all, range_with_len}
use Rattle.byteorder.specs.Endian.{big_bytes}
use Rattle.operation.specs.declared.End.{End}
use Rattle.operation.specs.declared.End.TheVariants as ends
use Rattle.operation.specs.declared.TrapKind.{TrapKind}
use Rattle.operation.specs.declared.TrapKind.TheVariants.{DivideByZero, Misaligned, OutOfRange, OutputFull, BadTarget}
use Rattle.image_format.specs.Image.{Image, page_count}

-- a kind of trap by its name
abbrev pub kind_name : TrapKind → List ℕ
kind_name DivideByZero = codes "DivideByZero"
kind_name Misaligned = codes "Misaligned"
kind_name OutOfRange = codes "OutOfRange"
kind_name OutputFull = codes "OutputFull"
kind_name BadTarget = codes "BadTarget"

-- how a run ended
abbrev pub end_text : End → List ℕ
end_text (ends.Halted code) = codes "halted " ++ decimal code
end_text (ends.Trapped t) = codes "trap " ++ kind_name t.kind ++ codes " block " ++ decimal t.block ++ codes " value " ++ decimal t.detail
end_text ends.Bound = codes "bound"

-- the lower-case digit of a number below 16
abbrev pub hex_digit : ℕ → ℕ
hex_digit n = if nat_lt n 10 then 48 + n else 87 + n

-- two digits a byte
abbrev pub hex : List ℕ → List ℕ
hex bytes = flat_map (λ b. hex_digit (b / 16) ∷ hex_digit (b % 16) ∷ []) bytes

-- the line i of 32 bytes; the last may have fewer
abbrev pub hex_line : List ℕ → ℕ → List ℕ
hex_line bytes i = hex (take 32 (drop (32 * i) bytes)) ++ codes "\n"

-- all of them
abbrev pub hex_lines : List ℕ → List ℕ
hex_lines bytes = flat_map (hex_line bytes) (range_with_len 0 ((length bytes + 31) / 32))

-- a context's number, how it ended, how many of its blocks have, and how many bytes it put out
unfoldable pub heading : ℕ → End → (blocks size : ℕ) → List ℕ
heading i end blocks size =
    codes "context " ++ decimal i ++ codes "\nend " ++ end_text end ++ codes "\nblocks " ++ decimal blocks
    ++ codes "\noutput " ++ decimal size ++ codes "\n"

-- the line of the row i of memory: its address and its bytes
abbrev pub row_line : List ℕ → ℕ → List ℕ
row_line row i = hex (big_bytes 4 (16 * i)) ++ codes " " ++ hex row ++ codes "\n"

-- none where all bytes of the row are 0
abbrev pub memory_line : List ℕ → ℕ → List ℕ
memory_line row i = if list_all (λ b. nat_eq b 0) row then [] else row_line row i

-- the bytes of memory from `16 * i` on, 16 of them; at the memory's end they may be fewer
abbrev pub memory_row : List ℕ → ℕ → List ℕ
memory_row memory i = take 16 (drop (16 * i) memory)

-- all of them
abbrev pub memory_lines : List ℕ → List ℕ
memory_lines memory = flat_map (λ i. memory_line (memory_row memory i) i) (range_with_len 0 ((length memory + 15) / 16))

-- the memory's size
unfoldable pub memory_heading : ℕ → List ℕ
memory_heading size = codes "memory " ++ decimal size ++ codes "\n"

-- the memory, where it is shown
abbrev pub memory_part : Bool → List ℕ → List ℕ
memory_part true memory = memory_heading (length memory) ++ memory_lines memory
memory_part false memory = []

-- a context's part: that, the bytes that it put out, and the memory where it is shown
abbrev pub part : ℕ → Bool → End → (blocks : ℕ) → (output memory : List ℕ) → List ℕ
part i dump end blocks output memory = heading i end blocks (length output) ++ (hex_lines output ++ memory_part dump memory)

-- how many cycles a context took
unfoldable pub cycles_line : ℕ → ℕ → List ℕ
cycles_line i n = codes "cycles " ++ decimal i ++ codes " " ++ decimal n ++ codes "\n"

-- how often a page was loaded into a frame, rescheduled or restored for that, and evicted
unfoldable pub pages_line : (loaded rescheduled restored evicted : ℕ) → List ℕ
pages_line loaded rescheduled restored evicted =
    codes "pages loaded " ++ (decimal loaded ++ (codes " rescheduled " ++ (decimal rescheduled ++ (codes " restored "
    ++ (decimal restored ++ (codes " evicted " ++ (decimal evicted ++ codes "\n")))))))

-- the line of an accepted image, by its numbers of pages, blocks and words in blocks
unfoldable pub accepted_line : List ℕ → (pages blocks words : ℕ) → List ℕ
accepted_line name pages blocks words =
    codes "accepted " ++ name ++ codes " pages " ++ decimal pages ++ codes " blocks " ++ decimal blocks ++ codes " words "
    ++ decimal words ++ codes "\n"

-- the line of a file that was kept, with how many bytes it has
unfoldable pub wrote_line : List ℕ → ℕ → List ℕ
wrote_line name bytes = codes "wrote " ++ name ++ codes " " ++ decimal bytes ++ codes "\n"

-- what `check` puts out of an accepted image
abbrev pub accepted_text : List ℕ → Image → List ℕ
accepted_text name image = accepted_line name (page_count image) (length image.rows) (sum (map (λ r. r.count) image.rows))
