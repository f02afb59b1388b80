-- 02, A9, the 44-byte header.
use Rattle.std.specs.Prelude.{Bool, cond, ◌&&◌, List, ◌++◌, ℕ, ◌+◌, ◌*◌, ◌%◌, leb, eqb, length, take, drop, Result, Ok, Err}
use Rattle.text.specs.Letters.{bytes}
use Rattle.text.specs.Same.{same}
use Rattle.blocks.specs.declared.refusal.Refusal.{Refusal}
use Rattle.wav.specs.Bytes.{little, little_in}
use Rattle.wav.specs.declared.header.Recording.{Recording}

-- `RIFF`, size, `WAVE`, `fmt ` of length 16, format 1, one channel, sample rate, byte rate twice that, block align 2, 16 bits,
-- then `data` and its size. The first size is 36 plus the data size.
unfoldable pub header_of : ℕ → ℕ → List ℕ
header_of rate size =
    bytes "RIFF" ++ (little 4 (36 + size) ++ (bytes "WAVE" ++ (bytes "fmt " ++ (little 4 16 ++ (little 2 1 ++ (little 2 1
    ++ (little 4 rate ++ (little 4 (2 * rate) ++ (little 2 2 ++ (little 2 16 ++ (bytes "data" ++ little 4 size)))))))))))

-- the data size is even and at most 2,147,483,000; twice the rate is a number of four bytes
unfoldable pub may_be : ℕ → ℕ → Bool
may_be rate size = leb rate 2147483647 && (leb size 2147483000 && eqb (size % 2) 0)

-- the header of a rate and a data size, where there is one. Else: 90
abbrev pub made_of : ℕ → ℕ → Result (List ℕ) Refusal
made_of rate size = cond (may_be rate size) (Ok (header_of rate size)) (Err Refusal.FileForm)

-- the sample rate and the data size that a header's bytes tell
abbrev pub rate_in : List ℕ → ℕ
rate_in bs = little_in (take 4 (drop 24 bs))

abbrev pub size_in : List ℕ → ℕ
size_in bs = little_in (take 4 (drop 40 bs))

-- the length of its file, by what it says
abbrev pub said_length : List ℕ → ℕ
said_length bs = cond (leb 44 (length bs)) (44 + size_in bs) 0

-- the first 44 bytes are that rate's and that size's header, and the file is 44 bytes longer than its data
unfoldable pub is_header : List ℕ → ℕ → Bool
is_header bs len =
    may_be (rate_in bs) (size_in bs) && (eqb len (44 + size_in bs) && same (take 44 bs) (header_of (rate_in bs) (size_in bs)))

abbrev pub tells : ℕ → ℕ → Result Recording Refusal
tells rate size = Ok (record { rate = rate; size = size })

-- what reading a header answers. Any other header, or a length that isn't 44 plus the data size: 90
abbrev pub head_of : List ℕ → ℕ → Result Recording Refusal
head_of bs len = cond (is_header bs len) (tells (rate_in bs) (size_in bs)) (Err Refusal.FileForm)

-- what writing one refuses: 20, a short slice; 90, another header
unfoldable pub head_number : ℕ → ℕ → List ℕ → ℕ
head_number rate size out = cond (leb 44 (length out)) (cond (may_be rate size) 0 90) 20
