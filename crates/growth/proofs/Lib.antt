pub mod SameAnswers
pub mod CheckReply
