-- The words of the calls and of the refusals, as the code prints them.
use Rattle.std.specs.Prelude.{ℕ, List, codes}
use Rattle.sheet.specs.declared.refusal.CallName.{CallName}
use Rattle.sheet.specs.declared.refusal.CallName.TheVariants.{Open, Set, Begin, Dot, Sum, Blend, Product, Solve, Join, Copy, Permute, Post, Withdraw, OneNorm, InfinityNorm, Largest, Smallest, Width, Middle, Enclosed, PermuteRun}
use Rattle.sheet.specs.declared.refusal.Refusal.{Refusal}
use Rattle.sheet.specs.declared.refusal.Refusal.TheVariants.{ScaleOutside, ShapeOutside, WrongLength, NoSuchColumn, NoSuchRow, NoCell, LayoutTooLarge, DivisorHoldsZero, NoPermutation, BeyondLimit}

abbrev pub call_word : CallName → List ℕ
call_word Open = codes "open"
call_word Set = codes "set"
call_word Begin = codes "begin"
call_word Dot = codes "dot"
call_word Sum = codes "sum"
call_word Blend = codes "blend"
call_word Product = codes "product"
call_word Solve = codes "solve"
call_word Join = codes "join"
call_word Copy = codes "copy"
call_word Permute = codes "permute"
call_word Post = codes "post"
call_word Withdraw = codes "withdraw"
call_word OneNorm = codes "one-norm"
call_word InfinityNorm = codes "infinity-norm"
call_word Largest = codes "largest"
call_word Smallest = codes "smallest"
call_word Width = codes "width"
call_word Middle = codes "middle"
call_word Enclosed = codes "enclosed"
call_word PermuteRun = codes "permutation of a run"

abbrev pub refusal_words : Refusal → List ℕ
refusal_words ScaleOutside = codes "the scale is not from 1 to 100000"
refusal_words ShapeOutside = codes "not 1 to 1024 rows, 1 to 64 columns and at most 4096 cells"
refusal_words (WrongLength call column) = codes "the supplied memory has not the length of the sheet"
refusal_words (NoSuchColumn call column) = codes "there is no such column"
refusal_words (NoSuchRow call column row) = codes "there is no such row"
refusal_words (NoCell column) = codes "the bounds are out of order or beyond the limit"
refusal_words (LayoutTooLarge call column) = codes "the layout has more rows or columns than a column has cells"
refusal_words (DivisorHoldsZero column row) = codes "a diagonal entry holds 0"
refusal_words (NoPermutation call column) = codes "not a permutation of as many places"
refusal_words (BeyondLimit fault) = codes "a bound that was worked out is beyond the limit"
