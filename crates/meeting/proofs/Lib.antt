pub mod MeetingLaws
pub mod SpokenLaws
