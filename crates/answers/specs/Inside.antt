-- What two operators have in common, as the code says it. Nothing here has to be believed: the laws tie it to the meaning.
use Rattle.answers.specs.declared.Answer.{Answer}
use Rattle.answers.specs.declared.Answer.TheVariants.{Silent, Bury, Keep, Clash}

abbrev pub settled : Answer → Answer → Answer
settled other Silent = other
settled other Bury = Bury
settled other Keep = Keep
settled other Clash = other

abbrev pub provided : Answer → Answer → Answer → Answer
provided Silent q otherwise = otherwise
provided Bury q otherwise = otherwise
provided Keep q otherwise = q
provided Clash q otherwise = q
