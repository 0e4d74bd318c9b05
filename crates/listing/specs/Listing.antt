-- 01, "Frame, run file and listing": "prints a header, then a line a step: step from 1, answer, value".
use Rattle.std.specs.Prelude.{ℕ, ◌+◌, ◌*◌, ◌<◌, ◌≤◌, List, [], ◌∷◌, ◌++◌, ◌≡◌, refl, eqb, length}
use Rattle.std.proofs.Common.{arith, ◌∙◌, length-append}
use Rattle.laws.specs.Choice.{cond_keeps}
use Rattle.protocol.specs.declared.step.Answer.{Answer}
use Rattle.protocol.specs.declared.step.Answer.TheVariants.{Done, Shown, AskFirst, Completed, Delivered, Refused}
use Rattle.protocol.specs.Answers.{done_or_completed, answer_number, answer_value}
use Rattle.listing_decimal.specs.Decimal.{width, tens, field, length_field, further_most, further_below}

-- room for the longest listing: a header, and 4,000 lines of at most 28 bytes
abbrev pub LONGEST : ℕ
LONGEST = 112640

abbrev pub space : ℕ
space = 32

abbrev pub newline : ℕ
newline = 10

-- "step answer value", separated by one space, ended by a newline
unfoldable pub line : ℕ → ℕ → ℕ → List ℕ
line step number value = field step space ++ (field number space ++ field value newline)

abbrev pub line_of : ℕ → Answer → List ℕ
line_of step a = line step (answer_number a) (answer_value a)

-- "prints a header": "step answer value" and a newline, in ASCII
unfoldable pub header : List ℕ
header = 115 ∷ 116 ∷ 101 ∷ 112 ∷ 32 ∷ 97 ∷ 110 ∷ 115 ∷ 119 ∷ 101 ∷ 114 ∷ 32 ∷ 118 ∷ 97 ∷ 108 ∷ 117 ∷ 101 ∷ 10 ∷ []

-- "a line a step": the lines of these answers, the first of which is to step k
unfoldable pub lines_from : ℕ → List Answer → List ℕ
lines_from k [] = []
lines_from k (a ∷ l) = line_of k a ++ lines_from (k + 1) l

-- "prints a header, then a line a step: step from 1": the listing of a run with these answers
abbrev pub listing_of : List Answer → List ℕ
listing_of l = header ++ lines_from 1 l

-- "A refused file prints the header and "0 4 9"."
abbrev pub refused_listing : List ℕ
refused_listing = header ++ line 0 4 9

-- ---- lengths
pub length_line : (step number value : ℕ) → length (line step number value) ≡ (width step + 1) + ((width number + 1) + (width value + 1))
unfolding line
length_line step number value =
    length-append (field step space) (field number space ++ field value newline)
    ∙ omega (arith, length-append (field number space) (field value newline), length_field step space, length_field number space, length_field value newline)

-- A line with a step below 10,000 and an answer below 10 has at most 28 bytes.
pub line_short : (step number value : ℕ) → step < 10000 → number < 10 → length (line step number value) ≤ 28
unfolding tens
line_short step number value h k =
    omega (arith, length_line step number value, further_below 19 3 step h, further_below 19 0 number k, further_most 19 value)

done_small : (n : ℕ) → done_or_completed n < 10
done_small n = cond_keeps (λ (k : ℕ). k < 10) (eqb n 0) (λ _. omega arith) (λ _. omega arith)

pub answer_small : (a : Answer) → answer_number a < 10
answer_small Done = omega arith
answer_small (Shown x) = omega arith
answer_small AskFirst = omega arith
answer_small (Completed n) = done_small n
answer_small (Delivered m n) = done_small n
answer_small (Refused k) = omega arith

-- The same for the lines of all steps below 10,000.
pub lines_short : (k : ℕ) (l : List Answer) → k + length l ≤ 10000 → length (lines_from k l) ≤ 28 * length l
unfolding lines_from
lines_short k [] h = omega arith
lines_short k (a ∷ l) h =
    omega (arith, length-append (line_of k a) (lines_from (k + 1) l), line_short k (answer_number a) (answer_value a) (omega arith) (answer_small a), lines_short (k + 1) l (omega arith))

pub length_header : length header ≡ 18
unfolding header
length_header = refl

-- A listing of at most 4,000 steps has at most 112,018 bytes.
pub listing_short : (l : List Answer) → length l ≤ 4000 → length (listing_of l) ≤ 112018
listing_short l h = omega (arith, length-append header (lines_from 1 l), length_header, lines_short 1 l (omega arith))
