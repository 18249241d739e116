-- What every reply starts with, as its three numbers.
use Rattle.std.specs.Prelude.{ℕ, zero, suc, cond, eqb, Result, Ok, Err}
use Rattle.refusals.specs.declared.Kind.{Kind}
use Rattle.refusals.specs.declared.Kind.TheVariants.{Short, Start, Tag, Len, Value, Rows, Overlap, Room, Node, Column, Under, Deep, End, Situation, Code, Cut, Nest, Tail, Rise, Facts, Week}
use Rattle.refusals.specs.declared.Refusal.{Refusal}

pub record Numbers : Type 0 where
  pub number : ℕ
  pub place : ℕ
  pub second : ℕ

-- "Success is 0 with its result, place and second number 0."
abbrev pub none : Numbers
none = record { number = 0; place = 0; second = 0 }

-- "A refusal returns number, place (offset or index, unless said) and second number (0 but for OVERLAP)."
abbrev pub refused : ℕ → ℕ → Numbers
refused number place = record { number = number; place = place; second = 0 }

-- A check comes first: where it refuses, that is the reply, and else what follows.
abbrev pub after : {A : Type 0} → Numbers → (Numbers → A) → A → A
after check refuse follows = cond (eqb check.number 0) follows (refuse check)

-- The first refusal among the checks f 0, f 1, .. of which there are n.
unfoldable pub first_refusal : (ℕ → Numbers) → ℕ → Numbers
first_refusal f zero = none
first_refusal f (suc n) = after (first_refusal f n) (λ r. r) (f n)

-- "1 SHORT, 2 START, 3 TAG, .. 20 RISE, 21 FACTS. Number 15 is unused."
abbrev pub SHORT : ℕ
SHORT = 1

abbrev pub START : ℕ
START = 2

abbrev pub TAG : ℕ
TAG = 3

abbrev pub LEN : ℕ
LEN = 4

abbrev pub VALUE : ℕ
VALUE = 5

abbrev pub ROWS : ℕ
ROWS = 6

abbrev pub OVERLAP : ℕ
OVERLAP = 7

abbrev pub ROOM : ℕ
ROOM = 8

abbrev pub NODE : ℕ
NODE = 9

abbrev pub COLUMN : ℕ
COLUMN = 10

abbrev pub UNDER : ℕ
UNDER = 11

abbrev pub DEEP : ℕ
DEEP = 12

abbrev pub END : ℕ
END = 13

abbrev pub SITUATION : ℕ
SITUATION = 14

abbrev pub CODE : ℕ
CODE = 16

abbrev pub CUT : ℕ
CUT = 17

abbrev pub NEST : ℕ
NEST = 18

abbrev pub TAIL : ℕ
TAIL = 19

abbrev pub RISE : ℕ
RISE = 20

abbrev pub FACTS : ℕ
FACTS = 21

-- "28 WEEK for a notice too many"
abbrev pub WEEK : ℕ
WEEK = 28

-- The number of what is wrong.
abbrev pub kind_number : Kind → ℕ
kind_number Short = SHORT
kind_number Start = START
kind_number Tag = TAG
kind_number Len = LEN
kind_number Value = VALUE
kind_number Rows = ROWS
kind_number Overlap = OVERLAP
kind_number Room = ROOM
kind_number Node = NODE
kind_number Column = COLUMN
kind_number Under = UNDER
kind_number Deep = DEEP
kind_number End = END
kind_number Situation = SITUATION
kind_number Code = CODE
kind_number Cut = CUT
kind_number Nest = NEST
kind_number Tail = TAIL
kind_number Rise = RISE
kind_number Facts = FACTS
kind_number Week = WEEK

abbrev pub refusal_at : Kind → ℕ → Refusal
refusal_at kind place = record { kind = kind; place = place; second = 0 }

-- The three numbers of a refusal, and of what a check gives: the numbers of success where it refuses nothing.
abbrev pub numbers : Refusal → Numbers
numbers r = record { number = kind_number r.kind; place = r.place; second = r.second }

abbrev pub checked : {A : Type 0} → Result A Refusal → Numbers
checked (Ok a) = none
checked (Err r) = numbers r

-- What a caller gets of a call that may refuse: the reply to its result, or else the reply to a refusal's numbers.
abbrev pub replied : {A B : Type 0} → (A → B) → (Numbers → B) → Result A Refusal → B
replied accept refuse (Ok a) = accept a
replied accept refuse (Err r) = refuse (numbers r)
