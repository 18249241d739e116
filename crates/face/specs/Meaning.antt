-- The replies of the C face: the numbers of the replies that the functions behind it give, each 64 bits wide.
use Rattle.std.specs.Prelude.{cond}
use Rattle.answers.specs.Meaning.{Reply, number}
use Rattle.operands.specs.Meaning.{Related}
use Rattle.situations.specs.declared.Situation.{Situation}
use Rattle.situations.specs.Meaning.{Merged}
use Rattle.notices.specs.Meaning.{Noticed}
use Rattle.compiler.specs.Meaning.{Compiled}
use Rattle.growth.specs.Meaning.{Growth}
use Rattle.listing.specs.Meaning.{Written}
use Rattle.voices.specs.Meaning.{Heard}
use Rattle.weeks.specs.Meaning.{Week}
use Rattle.refusals.specs.Meaning.{Numbers}
use Rattle.face.specs.declared.Three.{Three}
use Rattle.face.specs.declared.CarmAnswer.{CarmAnswer}
use Rattle.face.specs.declared.CarmCompiled.{CarmCompiled}
use Rattle.face.specs.declared.CarmSituation.{CarmSituation}
use Rattle.face.specs.declared.CarmMerged.{CarmMerged}
use Rattle.face.specs.declared.CarmGrowth.{CarmGrowth}
use Rattle.face.specs.declared.CarmNoticed.{CarmNoticed}
use Rattle.face.specs.declared.CarmHeard.{CarmHeard}
use Rattle.face.specs.declared.CarmWeek.{CarmWeek}
use Rattle.face.specs.declared.CarmWritten.{CarmWritten}

-- The three numbers, each 64 bits wide.
abbrev pub three : Numbers → Three
three r = record { number = r.number; place = r.place; second = r.second }

-- "Every reply starts with the three numbers of document 01: number (0 is success), place, second."
abbrev pub answer_face : Reply → CarmAnswer
answer_face r =
    record { number = r.refusal.number; place = r.refusal.place; second = r.refusal.second; answer = number r.answer }

-- "Answer 1 if p is contained in q, else 0."
abbrev pub contained_face : Related → CarmAnswer
contained_face r =
    record { number = r.refusal.number; place = r.refusal.place; second = r.refusal.second; answer = cond r.contained 1 0 }

-- "columns, rows (rows read) and nodes (nodes written) are 0 in a refusal."
abbrev pub compiled_face : Compiled → CarmCompiled
compiled_face r =
    record {
      number = r.refusal.number;
      place = r.refusal.place;
      second = r.refusal.second;
      columns = r.columns;
      rows = r.rows;
      nodes = r.nodes;
    }

-- A situation is its length and six bytes on both sides.
abbrev pub situation_face : Situation → CarmSituation
situation_face s = record { length = s.length; answers = s.answers }

abbrev pub situation_behind : CarmSituation → Situation
situation_behind s = record { length = s.length; answers = s.answers }

-- "On success situation has the common length, the joined answers, and from the length on the first operand's bytes as they
-- came. On a refusal it is the first operand as it came."
abbrev pub merged_face : Merged → CarmMerged
merged_face r =
    record {
      number = r.refusal.number;
      place = r.refusal.place;
      second = r.refusal.second;
      situation = situation_face r.situation;
    }

-- "verdict is 0 for neither (a refusal), 1 for yes, 2 for no. On a no, situation has the length and the answers of the first
-- failing step, places from its length on 0, column and answer say the step. Otherwise they are all 0."
abbrev pub growth_face : Growth → CarmGrowth
growth_face r =
    record {
      number = r.refusal.number;
      place = r.refusal.place;
      second = r.refusal.second;
      verdict = r.verdict;
      situation = situation_face r.situation;
      column = r.column;
      answer = r.answer;
    }

-- "facts is the number of facts read, 0 in a refusal."
abbrev pub noticed_face : Noticed → CarmNoticed
noticed_face r =
    record { number = r.refusal.number; place = r.refusal.place; second = r.refusal.second; facts = r.facts }

-- "set has bit a (1, 2, 4, 8) for each possible answer a, so 1 to 15; answer is its meet. In a refusal both are 0."
abbrev pub heard_face : Heard → CarmHeard
heard_face r =
    record {
      number = r.refusal.number;
      place = r.refusal.place;
      second = r.refusal.second;
      set = r.set;
      answer = number r.answer;
    }

-- "The four answers' counts, the refused, and in by_number at index r how many notices were refused with number r .. A refused batch
-- field gives its number and place, second 0, and the counts so far."
abbrev pub week_face : Week → CarmWeek
week_face w =
    record {
      number = w.refusal.number;
      place = w.refusal.place;
      second = w.refusal.second;
      silent = w.counts.silent;
      bury = w.counts.bury;
      keep = w.counts.keep;
      clash = w.counts.clash;
      refused = w.counts.refused;
      by_number = w.counts.numbers;
    }

-- "length is the number of bytes written at the front of the lent buffer", 0 in a refusal.
abbrev pub written_face : Written → CarmWritten
written_face r =
    record { number = r.refusal.number; place = r.refusal.place; second = r.refusal.second; length = r.length }
